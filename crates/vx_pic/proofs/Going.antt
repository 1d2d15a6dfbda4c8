-- More units are read behind those before them, and pictures stay.
use Rattle.std.proofs.Common.{◌≡◌, ℕ, List, [], ◌∷◌, ◌++◌, refl, sym, ◌∙◌, ap, Result, Ok, Err, Option, Some, None}
use Rattle.std.proofs.lemmas.List.{append_assoc}
use Rattle.vx_bits.specs.declared.refusal.Refusal.{Refusal}
use Rattle.vx_pic.specs.Readings.{Reading, Picture, completed, pictures}
use Rattle.vx_pic.specs.Rules.{Readers, reads}
use Rattle.vx_pic.specs.Streams.{StreamReading, one_more, read_on, unless_refused}
use Rattle.vx_pic.specs.laws.Pictures.{ReadingGoesOn, PicturesStay}

-- what follows a unit that is read, or not
one_goes_on : (x : Result Reading Refusal) (before : List Reading) (f g h : List Reading → StreamReading)
    → ((after : List Reading) → g after ≡ unless_refused (f after).refusal (f after).before h)
    → one_more x before g ≡ unless_refused (one_more x before f).refusal (one_more x before f).before h
one_goes_on (Ok r) before f g h is = is (r ∷ before)
one_goes_on (Err r) before f g h is = refl

pub goes_on : ReadingGoesOn
goes_on R before [] more = refl
goes_on R before (u ∷ units) more =
    one_goes_on (reads R before u) before (λ after. read_on R after units) (λ after. read_on R after (units ++ more)) (λ after. read_on R after more)
    (λ after. goes_on R after units more)

-- these pictures are those, and later ones
abbrev Adds : List Picture → List Reading → Type 0
Adds ps before = (later : List Picture) × (ps ≡ later ++ pictures before)

one_adds : (x : Result Reading Refusal) (before : List Reading) (f : List Reading → StreamReading)
    → ((after : List Reading) → Adds (pictures (f after).before) after) → Adds (pictures (one_more x before f).before) before
one_adds (Ok r) before f is =
    let more = is (r ∷ before) in
    (more.0 ++ completed r before, more.1 ∙ sym (append_assoc more.0 (completed r before) (pictures before)))
one_adds (Err r) before f is = ([], refl)

-- reading on adds pictures
pub adds : (R : Readers) (before : List Reading) (units : List (List ℕ)) → Adds (pictures (read_on R before units).before) before
adds R before [] = ([], refl)
adds R before (u ∷ units) = one_adds (reads R before u) before (λ after. read_on R after units) (λ after. adds R after units)

unless_adds : (x : Option Refusal) (before : List Reading) (f : List Reading → StreamReading)
    → ((after : List Reading) → Adds (pictures (f after).before) after) → Adds (pictures (unless_refused x before f).before) before
unless_adds None before f is = is before
unless_adds (Some r) before f is = ([], refl)

pub pictures_stay : PicturesStay
pictures_stay R units more =
    let front = read_on R [] units in
    let added = unless_adds front.refusal front.before (λ after. read_on R after more) (λ after. adds R after more) in
    (added.0, ap (λ o. pictures o.before) (goes_on R [] units more) ∙ added.1)
