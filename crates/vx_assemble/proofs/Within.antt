-- A feed by its parts, and the one that callers see.
use Rattle.std.proofs.Common.{◌≡◌, ℕ, ◌+◌, ◌≤◌, List, ◌∙◌, Option, Some, None, sym, ap, subst, arith}
use Rattle.vx_annexb.specs.ByteStream.{UnitPlace}
use Rattle.vx_annexb.specs.Reading as reader
use Rattle.vx_pic.specs.Readings.{Reading, Picture}
use Rattle.vx_pic.specs.Rules.{Readers}
use Rattle.vx_assemble.specs.Held.{Held}
use Rattle.vx_assemble.specs.Feed.{Feeding, HasFed}
use Rattle.vx_assemble.specs.Memory.{HasSeen}
use Rattle.vx_assemble.specs.declared.fault.First.{First}
use Rattle.vx_assemble.specs.inner.Feed.{feeding}

module _ (r : reader.Reading) (a : Held) (n : ℕ) (o : Option First) (f : Feeding)
    (view : ◌≡◌ {A = Feeding} (record { reader = r; assembler = a; units = n; first = o }) f) where
  pub fed_within : (R : Readers) (g : List ℕ) (places : List UnitPlace) (before : List Reading) → o ≡ None → HasFed R f g places before
      → HasFed R (feeding r a n) g places before
  fed_within R g places before none fed =
      subst (λ (x : Option First). HasFed R (record { reader = r; assembler = a; units = n; first = x }) g places before) none
      (subst (λ (h : Feeding). HasFed R h g places before) (sym view) fed)

  pub seen_within : (R : Readers) (bytes : List ℕ) (ps : List Picture) → o ≡ None → HasSeen R f bytes ps → HasSeen R (feeding r a n) bytes ps
  seen_within R bytes ps none seen =
      subst (λ (x : Option First). HasSeen R (record { reader = r; assembler = a; units = n; first = x }) bytes ps) none
      (subst (λ (h : Feeding). HasSeen R h bytes ps) (sym view) seen)

  pub not_stopped : {B : Type 0} (first : First) → o ≡ None → f.first ≡ Some first → B
  not_stopped first none is = let some : o ≡ Some first = ap (λ (x : Feeding). x.first) view ∙ is in absurd (cc)

  pub units_within : n ≡ f.units
  units_within = ap (λ (x : Feeding). x.units) view

  pub reader_within : r ≡ f.reader
  reader_within = ap (λ (x : Feeding). x.reader) view

-- as many units as bytes at most were taken
pub few_units : (n left most all : ℕ) → n + left ≤ most → most ≤ all → all ≤ 1099511627776 → n ≤ 1099511627776
few_units n left most all ahead within few = omega (arith, ahead, within, few)
