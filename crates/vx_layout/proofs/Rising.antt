-- Bounds by their index, and a table of the next bound that grows.
use Rattle.std.proofs.Common.{◌≡◌, ℕ, suc, zero, ◌+◌, ◌-◌, ◌<◌, ◌≤◌, List, [], ◌∷◌, length, get_or, sym, ◌∙◌, subst, inl, inr, arith}
use Rattle.std.proofs.lemmas.Bool.{cases_lt}
use Rattle.std.proofs.lemmas.List.{get_or_default}
use Rattle.std.specs.List.{Contains}
use Rattle.vx_layout.specs.Bounds.{RisesAbove, Rises, last_after, last}
use Rattle.vx_layout.specs.inner.Lines.{IsNextBound, AreNextBounds}
use Rattle.vx_layout.proofs.Tiling.{last-get_or}

pub RisesAbove-get_or : (a : ℕ) (bs : List ℕ) (j : ℕ) → RisesAbove a bs → j < length bs → a < get_or bs j 0
RisesAbove-get_or a [] j s h = absurd (omega arith)
RisesAbove-get_or a (b ∷ bs) zero s h = s.0
RisesAbove-get_or a (b ∷ bs) (suc j) s h = omega (arith, s.0, RisesAbove-get_or b bs j s.1 (omega arith))

RisesAbove-apart : (a : ℕ) (bs : List ℕ) (i j : ℕ) → RisesAbove a bs → i < j → j < length bs → get_or bs i 0 < get_or bs j 0
RisesAbove-apart a [] i j s l h = absurd (omega arith)
RisesAbove-apart a (b ∷ bs) i zero s l h = absurd (omega arith)
RisesAbove-apart a (b ∷ bs) zero (suc j) s l h = RisesAbove-get_or b bs j s.1 (omega arith)
RisesAbove-apart a (b ∷ bs) (suc i) (suc j) s l h = RisesAbove-apart b bs i j s.1 (omega arith) (omega arith)

-- a later bound is above an earlier one
pub Rises-apart : (bs : List ℕ) (i j : ℕ) → Rises bs → i < j → j < length bs → get_or bs i 0 < get_or bs j 0
Rises-apart [] i j s l h = absurd (omega arith)
Rises-apart (b ∷ bs) i zero s l h = absurd (omega arith)
Rises-apart (b ∷ bs) zero (suc j) s l h = RisesAbove-get_or b bs j s.1 (omega arith)
Rises-apart (b ∷ bs) (suc i) (suc j) s l h = RisesAbove-apart b bs i j s.1 (omega arith) (omega arith)

pub Rises-level : (bs : List ℕ) (i j : ℕ) → Rises bs → i ≤ j → j < length bs → get_or bs i 0 ≤ get_or bs j 0
Rises-level bs i j s l h =
    elim (cases_lt i j) [
      | inl less ↦ let apart = Rises-apart bs i j s less h in omega (arith, apart)
      | inr same ↦ let e : i ≡ j = omega arith in subst (λ n. get_or bs i 0 ≤ get_or bs n 0) e (omega arith)
    ]

-- a bound by its index
pub bound_at : (bs : List ℕ) (c : ℕ) → Contains bs c → (k : ℕ) × (k < length bs) × (get_or bs k 0 ≡ c)
bound_at bs c (k, short, is) = (k, short, get_or_default bs k 0 c short ∙ is)

pub bound_from : (bs : List ℕ) (k c : ℕ) → k < length bs → c ≡ get_or bs k 0 → Contains bs c
bound_from bs k c short is = (k, short, get_or_default bs k c 0 short ∙ sym is)

-- the first bound, the last one, and those between
pub Contains-first : (bounds : List ℕ) → Rises bounds → 0 < last bounds → Contains bounds 0
Contains-first [] rises some = absurd (omega arith)
Contains-first (b ∷ bs) rises some = (0, omega arith, rises.0)

some_bound : (bounds : List ℕ) → 0 < last bounds → 0 < length bounds
some_bound [] some = some
some_bound (b ∷ bs) some = omega arith

pub Contains-last : (bounds : List ℕ) → 0 < last bounds → Contains bounds (last bounds)
Contains-last bounds some =
    let long = some_bound bounds some in
    bound_from bounds (length bounds - 1) (last bounds) (omega arith) (sym (last-get_or bounds long))

pub Contains-le-last : (bounds : List ℕ) (n : ℕ) → Rises bounds → Contains bounds n → n ≤ last bounds
Contains-le-last bounds n rises inside =
    let at = bound_at bounds n inside in
    let level = Rises-level bounds at.0 (length bounds - 1) rises (omega (arith, at.1)) (omega (arith, at.1)) in
    omega (arith, at.2, level, last-get_or bounds (omega (arith, at.1)))

-- the table of next bounds, as far as the first i bounds reach
pub record NextSoFar (bounds next : List ℕ) (i : ℕ) : Type 0 where
  pub reached : (j : ℕ) → j < i → get_or bounds j 0 < length next
  pub ahead : (j : ℕ) → i ≤ j → j < length bounds → length next ≤ get_or bounds j 0
  pub each : (x : ℕ) → x < length next → IsNextBound bounds x (get_or next x 0)

-- the table filled up with bound i
pub NextSoFar-more : (bounds next new : List ℕ) (i b : ℕ) → Rises bounds → i < length bounds → b ≡ get_or bounds i 0 → length new ≡ b + 1 →
    ((k d : ℕ) → k < b + 1 → k < length next → get_or new k d ≡ get_or next k d) → ((k d : ℕ) → length next ≤ k → k < b + 1 → get_or new k d ≡ b) →
    NextSoFar bounds next i → NextSoFar bounds new (i + 1)
NextSoFar-more bounds next new i b rises short is long kept filled so_far =
    let room : length next ≤ get_or bounds i 0 = so_far.ahead i (omega arith) short in
    record {
      reached = λ j h. let level = Rises-level bounds j i rises (omega arith) short in omega (arith, level);
      ahead = λ j h k. let apart = Rises-apart bounds i j rises (omega arith) k in omega (arith, apart);
      each = λ x h.
          elim (cases_lt x (length next)) [
            | inl old ↦ rw (kept x 0 (omega arith) old) (so_far.each x old)
            | inr fresh ↦
                rw (filled x 0 fresh (omega arith))
                (record {
                  bound = bound_from bounds i b short is;
                  reaches = omega arith;
                  first = λ c inside up.
                      let at = bound_at bounds c inside in
                      elim (cases_lt at.0 i) [
                        | inl before ↦ let low = so_far.reached at.0 before in absurd (omega (arith, low, at.2))
                        | inr later ↦ let level = Rises-level bounds i at.0 rises later at.1 in omega (arith, level, at.2)
                      ];
                })
          ];
    }

pub AreNextBounds-from : (bounds next : List ℕ) (i : ℕ) → 0 < length bounds → length bounds ≤ i → NextSoFar bounds next i → AreNextBounds bounds next
AreNextBounds-from bounds next i some all so_far = record {
  long = let end = so_far.reached (length bounds - 1) (omega arith) in omega (arith, end, last-get_or bounds some);
  each = so_far.each;
}

length-le-last_after : (a : ℕ) (bs : List ℕ) → RisesAbove a bs → a + length bs ≤ last_after a bs
length-le-last_after a [] rises = omega arith
length-le-last_after a (b ∷ bs) rises = omega (arith, rises.0, length-le-last_after b bs rises.1)

-- there is at most one bound for each number up to the last
pub length-le-last : (bs : List ℕ) → Rises bs → length bs ≤ last bs + 1
length-le-last [] rises = omega arith
length-le-last (a ∷ bs) rises = omega (arith, length-le-last_after a bs rises.1)
