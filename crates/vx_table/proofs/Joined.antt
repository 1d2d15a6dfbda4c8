-- Values of one form behind another: they part where the first form ends, and their items, bits and spellings stand one behind another.
use Rattle.std.proofs.Common.{◌≡◌, ℕ, ℤ, ◌+◌, Bool, List, [], ◌∷◌, ◌++◌, length, refl, ap, sym, subst, ◌∙◌, arith}
use Rattle.std.proofs.lemmas.List.{append_assoc, length-append}
use Rattle.vx_table.specs.Forms.{Form, done, field, ◌>>=◌}
use Rattle.vx_table.specs.Spelling.{Spells, at_end, behind, code_of, item_of, items_along}
use Rattle.vx_table.specs.Values.{Follows, to_end, through, Parted, bits_along}
use Rattle.vx_table.specs.laws.Spelling.{FollowsTogether, ItemsTogether, BitsTogether, SpellsTogether}

pub parted : {A B : Type 0} (f : Form A) (next : A → Form B) {values : List ℤ} {end : B} → Follows (f >>= next) values end → Parted f next values end
parted (done a) next {values} follows = record { front = []; others = values; mid = a; all = refl; first = to_end; second = follows }
parted (field cell goes) next (through {v} {w} value follows) =
    let more = parted (goes v) next follows in
    record { front = v ∷ more.front; others = more.others; mid = more.mid; all = ap (λ x. v ∷ x) more.all; first = through value more.first; second = more.second }

pub joined : {A B : Type 0} {f : Form A} (next : A → Form B) {v w : List ℤ} {a : A} {b : B} → Follows f v a → Follows (next a) w b → Follows (f >>= next) (v ++ w) b
joined next to_end more = more
joined next (through value follows) more = through value (joined next follows more)

pub items_joined : {A B : Type 0} {f : Form A} (next : A → Form B) {v : List ℤ} (w : List ℤ) {a : A} → Follows f v a → items_along (f >>= next) (v ++ w) ≡ items_along f v ++ items_along (next a) w
items_joined next w to_end = refl
items_joined next w {a} (through {cell} {goes} {v} {w = u} value follows) =
    ap (λ x. item_of cell v ++ x) (items_joined next w follows) ∙ sym (append_assoc (item_of cell v) (items_along (goes v) u) (items_along (next a) w))

pub bits_joined : {A B : Type 0} {f : Form A} (next : A → Form B) (place : ℕ) {v : List ℤ} (w : List ℤ) {a : A} → Follows f v a
    → bits_along (f >>= next) place (v ++ w) ≡ bits_along f place v ++ bits_along (next a) (place + length (bits_along f place v)) w
bits_joined next place w to_end =
    let here : place + length {A = Bool} [] ≡ place = omega arith in
    rw here refl
bits_joined next place w {a} (through {cell} {goes} {v} {w = u} value follows) =
    let code = code_of cell.coding place v in
    let rest = bits_along (goes v) (place + length code) u in
    let there : place + length (code ++ rest) ≡ place + length code + length rest = omega (arith, length-append code rest) in
    rw there (ap (λ x. code ++ x) (bits_joined next (place + length code) w follows) ∙ sym (append_assoc code rest (bits_along (next a) (place + length code + length rest) w)))

pub spells_joined : {A B : Type 0} {total : ℕ} {f : Form A} (next : A → Form B) {v w : List ℤ} {a : A} {left mid rest : List Bool}
    → Follows f v a → Spells total f v left mid → Spells total (next a) w mid rest → Spells total (f >>= next) (v ++ w) left rest
spells_joined next to_end at_end more = more
spells_joined next (through value follows) (behind stands spelled) more = behind stands (spells_joined next follows spelled more)

pub spells_parted : {A B : Type 0} {total : ℕ} {f : Form A} (next : A → Form B) {v w : List ℤ} {a : A} {left rest : List Bool}
    → Follows f v a → Spells total (f >>= next) (v ++ w) left rest → (mid : List Bool) × Spells total f v left mid × Spells total (next a) w mid rest
spells_parted next {left} to_end spelled = (left, at_end, spelled)
spells_parted next (through value follows) (behind stands spelled) =
    let more = spells_parted next follows spelled in
    (more.0, behind stands more.1, more.2)

pub follows_together : FollowsTogether
follows_together form next values end =
    (λ follows. parted form next follows, λ parts. subst (λ w. Follows (form >>= next) w end) (sym parts.all) (joined next parts.first parts.second))

pub items_together : ItemsTogether
items_together form next v w mid follows = items_joined next w follows

pub bits_together : BitsTogether
bits_together form next place v w mid follows = bits_joined next place w follows

pub spells_together : SpellsTogether
spells_together form next total v w mid left rest follows = (λ spelled. spells_parted next follows spelled, λ (between, first, second). spells_joined next follows first second)
