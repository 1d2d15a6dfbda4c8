-- Searches for the lowest file that fails a check.
use Rattle.std.proofs.Common.{◌≡◌, ℕ, zero, suc, ◌+◌, ◌<◌, ◌≤◌, List, [], ◌∷◌, length, slice_get, Some, refl, sym, ap, subst, ◌∙◌, inl, inr, arith}
use Rattle.std.proofs.lemmas.Bool.{cases_eq}
use Rattle.std.proofs.lemmas.Option.{same_Some, slice_get_within}
use Rattle.vx_fit.specs.Lowest.{IsLowest}
use Rattle.vx_verify.specs.Verified.{Fails}
use Rattle.vx_verify.specs.inner.Found.{AllOf}

-- there is an entry at each place of a list
pub entry_at : {A : Type 0} (xs : List A) (k : ℕ) → k < length xs → (x : A) × (slice_get xs k ≡ Some x)
entry_at [] k low = absurd (omega (arith, low))
entry_at (x ∷ xs) zero low = (x, refl)
entry_at (x ∷ xs) (suc k) low = entry_at xs k (omega (arith, low))

-- of the entries before k
abbrev pub BeforeIt : {A : Type 0} → List A → (ℕ → A → Type 0) → ℕ → Type 0
BeforeIt {A = A} xs Holds k = (j : ℕ) (y : A) → j < k → slice_get xs j ≡ Some y → Holds j y

module _ {A : Type 0} (xs : List A) (Holds : ℕ → A → Type 0) where
  pub before_none : BeforeIt xs Holds 0
  before_none j y low is = absurd (omega (arith, low))

  pub before_more : (k : ℕ) (x : A) → slice_get xs k ≡ Some x → Holds k x → BeforeIt xs Holds k → BeforeIt xs Holds (k + 1)
  before_more k x here holds before j y low is = elim (cases_eq j k) [
    | inl same ↦
        let at : slice_get xs j ≡ Some x = ap (slice_get xs) same ∙ here in
        let one : x ≡ y = same_Some x y (sym at ∙ is) in
        subst (λ (i : ℕ). Holds i y) (sym same) (subst (Holds k) one holds)
    | inr other ↦ before j y (omega (arith, low, other)) is
  ]

  pub before_all : (k : ℕ) → length xs ≤ k → BeforeIt xs Holds k → AllOf xs Holds
  before_all k past before j y is = before j y (omega (arith, slice_get_within xs j y is)) is

  module _ (Finished : Type 0) (sound : ¬ Finished) where
    -- a list of which all entries hold has no file that fails
    pub never : AllOf xs Holds → (file : ℕ) → ¬ Fails Finished xs Holds file
    never all zero = sound
    never all (suc k) = λ fails. fails.2 (all k fails.0 fails.1)

    none_lower : (k : ℕ) → BeforeIt xs Holds k → (file : ℕ) → file < suc k → ¬ Fails Finished xs Holds file
    none_lower k before zero low = sound
    none_lower k before (suc j) low = λ fails. fails.2 (before j fails.0 (omega (arith, low)) fails.1)

    -- the lowest that does, where entry k is the first that doesn't hold
    lowest_entry : (n k : ℕ) (x : A) → length xs ≡ n → slice_get xs k ≡ Some x → ¬ Holds k x → BeforeIt xs Holds k → IsLowest (suc n) (Fails Finished xs Holds) (suc k)
    lowest_entry n k x count is fails before = record {
      in_range = omega (arith, slice_get_within xs k x is, count);
      breaks = (x, is, fails);
      lower = none_lower k before;
    }

    pub lowest_file : (n k file : ℕ) (x : A) → length xs ≡ n → file ≡ k + 1 → slice_get xs k ≡ Some x → ¬ Holds k x → BeforeIt xs Holds k
        → IsLowest (suc n) (Fails Finished xs Holds) file
    lowest_file n k file x count number is fails before =
        let at : suc k ≡ file = omega (arith, number) in
        let P : ℕ → Type 0 = IsLowest (suc n) (Fails Finished xs Holds) in
        subst P at (lowest_entry n k x count is fails before)
