-- What a binary search over bounds finds.
use Rattle.std.proofs.Common.{◌≡◌, ℕ, ◌<◌, true, false, List, length, get_or, refl, sym, inl, inr, arith, MatchOption, Result, Ok, Err}
use Rattle.std.proofs.lemmas.Bool.{both_ways, cases_lt}
use Rattle.std.proofs.lemmas.List.Sorted.{searched}
use Rattle.std.specs.List.{Contains}
use Rattle.std.specs.List.Sorted.{IsBinarySearchResult}
use Rattle.std.specs.Ordering.{nat_cmp}
use Rattle.std.specs.Result.{is_ok, result_ok}
use Rattle.vx_layout.specs.Bounds.{Rises}
use Rattle.vx_layout.proofs.Rising.{Rises-level, bound_at, bound_from}

-- whether a binary search over bounds finds a number tells whether it is one of them
pub search-finds : (bs : List ℕ) (n : ℕ) (r : Result ℕ ℕ) → Rises bs → IsBinarySearchResult (λ m. nat_cmp m n) bs r → is_ok r ≡ true → Contains bs n
search-finds bs n (Err i) rises answer ok = absurd (both_ways false refl ok)
search-finds bs n (Ok i) rises answer ok =
    let at = searched bs n (Ok i) answer (λ j k. Rises-level bs j k rises) in
    bound_from bs i n at.0 (sym at.1)

pub search-misses : (bs : List ℕ) (n : ℕ) (r : Result ℕ ℕ) → Rises bs → IsBinarySearchResult (λ m. nat_cmp m n) bs r → is_ok r ≡ false → Contains bs n → ⊥
search-misses bs n (Ok i) rises answer err inside = both_ways true err refl
search-misses bs n (Err i) rises answer err inside =
    let between = searched bs n (Err i) answer (λ j k. Rises-level bs j k rises) in
    let at = bound_at bs n inside in
    elim (cases_lt at.0 i) [
      | inl low ↦ let below : get_or bs at.0 0 < n = between.1 at.0 low in absurd (omega (arith, below, at.2))
      | inr high ↦ let above : n < get_or bs at.0 0 = between.2 at.0 high at.1 in absurd (omega (arith, above, at.2))
    ]

-- and where it does, at which index
pub search-index : (bs : List ℕ) (n : ℕ) (r : Result ℕ ℕ) → Rises bs → IsBinarySearchResult (λ m. nat_cmp m n) bs r → MatchOption (result_ok r) (Contains bs n → ⊥) (λ i. (i < length bs) × (get_or bs i 0 ≡ n))
search-index bs n (Ok i) rises answer = searched bs n (Ok i) answer (λ j k. Rises-level bs j k rises)
search-index bs n (Err i) rises answer = λ inside. search-misses bs n (Err i) rises answer refl inside
