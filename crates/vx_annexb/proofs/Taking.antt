-- What a reader of units takes of its source, as far as the limit lets see, and what it then finds.
use Rattle.std.proofs.Common.{◌≡◌, ℕ, ◌+◌, ◌-◌, ◌≤◌, inl, inr, Bool, false, List, ◌++◌, Option, Some, None, Ok, Err, length, take, sym, ap, ◌∙◌, arith, refl, subst, length-append}
use Rattle.std.specs.Prelude.{min}
use Rattle.std.proofs.Math.Nat.{min_comm}
use Rattle.std.proofs.Math.Seq.{take-append-add, take_all}
use Rattle.std.proofs.lemmas.List.{take_min, take-take, length-take-le}
use Rattle.vx_bits.specs.declared.refusal.Refusal.{Refusal}
use Rattle.vx_bits.specs.declared.refusal.Refusal.TheVariants.{Limit}
use Rattle.vx_bits.specs.declared.rules.TheConstants.{LONG_SOURCE}
use Rattle.vx_annexb.specs.declared.span.Span.{Span}
use Rattle.vx_annexb.specs.declared.unit_reader.Closed.{Closed}
use Rattle.vx_annexb.specs.declared.unit_reader.Closed.TheVariants.{End, TooLong, Failed}
use Rattle.vx_annexb.specs.ByteStream.{source_limit, UnitPlace, IsStream}
use Rattle.vx_annexb.specs.Held.{Held, Stands, Answers}
use Rattle.vx_annexb.specs.Reading.{Reading, ClosesAt, HasRead, Finds}

-- the limit as a number
pub source_limit-is : source_limit ≡ 1099511627776
unfolding source_limit
source_limit-is = refl

-- the front of a piece behind g is what the limit lets see of both
module _ (limit : ℕ) (g piece : List ℕ) (within : length g ≤ limit) where
  pub seen_front : g ++ take (limit - length g) piece ≡ take limit (g ++ piece)
  seen_front =
      let k = limit - length g in
      let split : length g + k ≡ limit = omega arith in
      sym (take-append-add g piece k) ∙ ap (λ n. take n (g ++ piece)) split

pub seen_of_more : (g piece : List ℕ) (taken : ℕ) → length g ≡ taken → taken ≤ 1099511627776
    → take source_limit g ++ take (1099511627776 - taken) piece ≡ take source_limit (g ++ piece)
seen_of_more g piece taken len within =
    let short : length g ≤ source_limit = rw source_limit-is (omega arith) in
    let same : 1099511627776 - taken ≡ source_limit - length g = rw (source_limit-is, len) refl in
    ap (λ xs. xs ++ take (1099511627776 - taken) piece) (take_all source_limit g short)
    ∙ ap (λ n. g ++ take n piece) same
    ∙ seen_front source_limit g piece short

-- of the first of a piece, what the limit lets see
pub seen_of_fed : (g piece : List ℕ) (taken count : ℕ) → length g ≡ taken → taken ≤ 1099511627776 → count ≤ length piece
    → take source_limit g ++ take (min count (1099511627776 - taken)) piece ≡ take source_limit (g ++ take count piece)
seen_of_fed g piece taken count len within few =
    let limit = 1099511627776 - taken in
    let front : take limit (take count piece) ≡ take (min count limit) piece =
    sym (take_min limit (take count piece))
    ∙ ap (λ n. take (min limit n) (take count piece)) (length-take-le count piece few)
    ∙ ap (λ n. take n (take count piece)) (min_comm limit count)
    ∙ take-take (min count limit) count piece (omega arith) in
    ap (λ l. take source_limit g ++ l) (sym front) ∙ seen_of_more g (take count piece) taken len within

-- why a reader reads no more hangs on whether the bytes are all there are
closes_as : (closed : Option Closed) (h h' : Held) (n : ℕ) → h'.all ≡ h.all → ClosesAt closed h n → ClosesAt closed h' n
closes_as None h h' n same c = (same ∙ c.0, c.1)
closes_as (Some End) h h' n same c = (same ∙ c.0, c.1)
closes_as (Some TooLong) h h' n same c = (same ∙ c.0, c.1)
closes_as (Some Failed) h h' n same c = (same ∙ c.0, c.1)

-- where there are more bytes than the limit, those that are seen aren't all
pub long_goes_on : (closed : Option Closed) (h : Held) (n : ℕ) → closed ≡ Some TooLong → ClosesAt closed h n → h.all ≡ false
long_goes_on None h n is c = cc
long_goes_on (Some End) h n is c = cc
long_goes_on (Some TooLong) h n is c = c.0
long_goes_on (Some Failed) h n is c = cc

-- what the splitter answers, a reader finds
module _ (r : Reading) (h : Held) (same : h.all ≡ r.splitter.all) (g : List ℕ) (units : List UnitPlace) (read : HasRead r g units) where
  read_on : (later : List UnitPlace) → Stands h (take source_limit g) later → HasRead (record r { splitter = h }) g later
  read_on later stands = record { taken = read.taken; closes = closes_as r.closed r.splitter h r.taken same read.closes; stands = stands }

  pub finds_unit : (span : Span) → Answers (take source_limit g) units h (Ok (Some span)) → Finds g units (record r { splitter = h }) (Ok (Some span))
  finds_unit span a = (read_on _ a.0, a.1)

  pub finds_none : Answers (take source_limit g) units h (Ok None) → (r.closed ≡ Some TooLong → ⊥) → Finds g units (record r { splitter = h }) (Ok None)
  finds_none a short = (read_on units a.0, a.1, short)

  pub finds_long : Answers (take source_limit g) units h (Ok None) → r.closed ≡ Some TooLong → Finds g units (record r { splitter = h }) (Err (Limit LONG_SOURCE))
  finds_long a long =
      let going : h.all ≡ false = same ∙ long_goes_on r.closed r.splitter r.taken long read.closes in
      let P : Bool → Type 0 = λ all. IsStream (take source_limit g) all units None in
      (read_on units a.0, inr (subst P going a.1, long, refl))

  pub finds_refusal : (x : Refusal) → Answers (take source_limit g) units h (Err x) → Finds g units (record r { splitter = h }) (Err x)
  finds_refusal x a = (read_on units a.0, inl a.1)

-- ---- bytes that are handed in in place of a read

module _ (old : Reading) (h : Held) (closed : Option Closed) (g piece : List ℕ) (units : List UnitPlace) (count : ℕ) (read : HasRead old g units) (within : old.taken ≤ 1099511627776) (few : count ≤ length piece) where
  pub has_read-more : ClosesAt closed h (old.taken + count) → (seen : ℕ) → seen ≡ min count (1099511627776 - old.taken) → Stands h (take source_limit g ++ take seen piece) units
      → HasRead (record { splitter = h; taken = old.taken + count; closed = closed }) (g ++ take count piece) units
  has_read-more closes seen is stands = record {
    taken = length-append g (take count piece) ∙ omega (arith, read.taken, length-take-le count piece few);
    closes = closes;
    stands = subst (λ (l : List ℕ). Stands h l units) (ap (λ n. take source_limit g ++ take n piece) is ∙ seen_of_fed g piece old.taken count read.taken within few) stands;
  }
