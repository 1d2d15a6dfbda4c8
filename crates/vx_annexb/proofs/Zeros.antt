-- What a search of the bytes from a place on says of all bytes.
use Rattle.std.proofs.Common.{◌≡◌, ℕ, zero, suc, ◌+◌, ◌-◌, ◌<◌, ◌≤◌, List, [], ◌∷◌, length, slice_index, slice_range, sym, ap, refl, ◌∙◌, arith, ⊎_elim}
use Rattle.std.proofs.lemmas.Bool.{cases_lt}
use Rattle.memchr.specs.Find.{Nowhere, NoneBefore, OccursAt}
use Rattle.vx_annexb.specs.Places.{AreZeros, IsMark, IsFirstFrom}
use Rattle.vx_annexb.proofs.Places.{length-slice, index-slice}

-- 00 00, and that it stands at a place
abbrev pub two_zeros : List ℕ
two_zeros = 0 ∷ 0 ∷ []

abbrev pub StandsAt : List ℕ → ℕ → Type 0
StandsAt b k = AreZeros b k (k + 2)

two_zeros-is : (j : ℕ) → slice_index two_zeros j ≡ 0
two_zeros-is zero = refl
two_zeros-is (suc zero) = refl
two_zeros-is (suc (suc j)) = refl

-- a mark begins with them
pub mark_zeros : (most : ℕ) (b : List ℕ) (k : ℕ) → IsMark most b k → StandsAt b k
mark_zeros most b k m = record {
  order = omega arith;
  within = omega (arith, m.within);
  each = λ i low high. ⊎_elim
      (λ here. let e : i ≡ k = omega arith in ap (slice_index b) e ∙ m.first)
      (λ next. let e : i ≡ k + 1 = omega arith in ap (slice_index b) e ∙ m.second)
      (cases_lt i (k + 1));
}

module _ (b : List ℕ) (from : ℕ) (le : from ≤ length b) where
  abbrev rest : List ℕ
  rest = slice_range b from (length b)

  rest_len : length rest ≡ length b - from
  rest_len = length-slice b from (length b) le (omega arith)

  occurs : (k : ℕ) → from ≤ k → StandsAt b k → OccursAt rest two_zeros (k - from)
  occurs k low zeros = record {
    fits = omega (arith, zeros.within, rest_len);
    reads = λ j lt.
        let e : from + (k - from + j) ≡ k + j = omega arith in
        index-slice b from (length b) (k - from + j) (omega (arith, zeros.within)) ∙ ap (slice_index b) e ∙ zeros.each (k + j) (omega arith) (omega arith) ∙ sym (two_zeros-is j);
  }

  stands : (skip : ℕ) → OccursAt rest two_zeros skip → StandsAt b (from + skip)
  stands skip o = record {
    order = omega arith;
    within = omega (arith, o.fits, rest_len);
    each = λ i low high.
        let e : from + (skip + (i - (from + skip))) ≡ i = omega arith in
        ap (slice_index b) (sym e)
        ∙ sym (index-slice b from (length b) (skip + (i - (from + skip))) (omega (arith, o.fits, rest_len)))
        ∙ o.reads (i - (from + skip)) (omega arith)
        ∙ two_zeros-is (i - (from + skip));
  }

  pub no_zeros : Nowhere (OccursAt rest two_zeros) 0 (length rest + 1) → (k : ℕ) → from ≤ k → StandsAt b k → ⊥
  no_zeros none k low zeros = none (k - from) (omega arith) (omega (arith, zeros.within, rest_len)) (occurs k low zeros)

  pub first_zeros : (skip : ℕ) → NoneBefore (OccursAt rest two_zeros) 0 (length rest + 1) skip × OccursAt rest two_zeros skip → IsFirstFrom (StandsAt b) from (from + skip)
  first_zeros skip found = record {
    order = omega arith;
    here = stands skip found.1;
    before = λ k low lt zeros. found.0.before (k - from) (omega arith) (omega arith) (occurs k low zeros);
  }

-- no mark up to a place, and no 00 00 from there on
pub no_mark_at_all : (most : ℕ) (b : List ℕ) (from there at : ℕ) → ((k : ℕ) → from ≤ k → k < there → ¬ IsMark most b k) → ((k : ℕ) → there ≤ k → k < at → ¬ IsMark most b k)
    → ((k : ℕ) → at ≤ k → StandsAt b k → ⊥) → (k : ℕ) → from ≤ k → ¬ IsMark most b k
no_mark_at_all most b from there at before next none k le m = ⊎_elim
    (λ low. before k le low m)
    (λ high. ⊎_elim (λ near. next k high near m) (λ far. none k far (mark_zeros most b k m)) (cases_lt k at))
    (cases_lt k there)

-- nor up to the first 00 00 from there on, from which the search goes on
pub past_search : (most : ℕ) (b : List ℕ) (from there at reach place : ℕ) → from ≤ at → 0 < reach → ((k : ℕ) → from ≤ k → k < there → ¬ IsMark most b k) → ((k : ℕ) → there ≤ k → k < at → ¬ IsMark most b k)
    → IsFirstFrom (StandsAt b) at place → (from ≤ place) × (place ≤ length b) × (0 < reach) × ((k : ℕ) → from ≤ k → k < place → ¬ IsMark most b k)
past_search most b from there at reach place order some before next first = (
  omega (arith, first.order),
  omega (arith, first.here.within),
  some,
  λ k le lt m. ⊎_elim
      (λ low. before k le low m)
      (λ high. ⊎_elim (λ near. next k high near m) (λ far. first.before k far lt (mark_zeros most b k m)) (cases_lt k at))
      (cases_lt k there),
)
