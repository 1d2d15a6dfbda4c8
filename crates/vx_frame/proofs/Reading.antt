-- Pictures of a round, and how they differ from the lowest one that has something.
use Rattle.std.proofs.Common.{◌≡◌, ℕ, zero, suc, ◌<◌, Bool, cond, List, [], ◌∷◌, length, get_or, map, take, slice_get, Option, Some, None, unwrap_or, refl, ap, sym, subst, ◌∙◌, inl, inr, arith}
use Rattle.std.specs.List.{AllByRecursion}
use Rattle.std.specs.Prelude.{IsTrue, flat_map}
use Rattle.std.proofs.lemmas.Bool.{cases_Bool}
use Rattle.std.proofs.lemmas.List.Concat.{flat_map-cons}
use Rattle.std.proofs.lemmas.List.{get_or_default}
use Rattle.std.proofs.lemmas.Option.{none-some}
use Rattle.vx_fit.specs.Lowest.{IsLowest}
use Rattle.vx_pic.specs.Parts.{Parts}
use Rattle.vx_frame.specs.Rounds.{SomeUnlike, SomeUnlikeFirst, no_picture, picture_at}
use Rattle.vx_frame.specs.Shapes.{of_lowest}
use Rattle.vx_frame.specs.inner.Gathered.{IsLowestWith}
use Rattle.vx_frame.proofs.Gathered.{front_first}

-- a picture that was read from a round
pub picture_read : (round : List Parts) (k : ℕ) (q : Parts) → k < length round → q ≡ get_or round k q → q ≡ picture_at round k
picture_read round k q short is = is ∙ get_or_default round k q no_picture short

-- ---- what the lowest one that has something has of it

lowest_at : {A : Type 0} (has : Parts → Bool) (f : Parts → A) (d : A) (round : List Parts) (k : ℕ) → IsLowest (length round) (λ i. IsTrue (has (picture_at round i))) k
    → of_lowest has f d round ≡ f (picture_at round k)
lowest_at has f d [] k is = let short = is.in_range in absurd (omega (arith, short))
lowest_at has f d (x ∷ round) zero is = ap (λ b. cond b (f x) (of_lowest has f d round)) is.breaks
lowest_at has f d (x ∷ round) (suc k) is = elim (cases_Bool (has x)) [
  | inl here ↦ absurd (is.lower 0 (omega arith) here)
  | inr none ↦
      let short = is.in_range in
      ap (λ b. cond b (f x) (of_lowest has f d round)) none
      ∙ lowest_at has f d round k (record { in_range = omega (arith, short); breaks = is.breaks; lower = λ j less. is.lower (suc j) (omega (arith, less)) })
]

pub lowest_read : {A : Type 0} (has : Parts → Bool) (f : Parts → A) (d : A) (round : List Parts) (k : ℕ) (q : Parts) → IsLowestWith has round (Some k) → q ≡ get_or round k q
    → f q ≡ of_lowest has f d round
lowest_read has f d round k q is at = ap f (picture_read round k q is.in_range at) ∙ sym (lowest_at has f d round k is)

pub lowest_absent : {A : Type 0} (has : Parts → Bool) (f : Parts → A) (d : A) (round : List Parts) → IsLowestWith has round None → d ≡ of_lowest has f d round
lowest_absent has f d [] none = refl
lowest_absent has f d (x ∷ round) none = elim (cases_Bool (has x)) [
  | inl here ↦ absurd (none 0 (omega arith) here)
  | inr off ↦ lowest_absent has f d round (λ k short. none (suc k) (omega (arith, short))) ∙ sym (ap (λ b. cond b (f x) (of_lowest has f d round)) off)
]

-- ---- the first of a list

pub first_mapped : {A B : Type 0} (f : A → B) (xs : List A) (x : A) → slice_get xs 0 ≡ Some x → map f (take 1 xs) ≡ f x ∷ []
first_mapped f [] x is = absurd (none-some x is)
first_mapped f (y ∷ xs) x is = let same : y ≡ x = ap (λ o. unwrap_or o y) is in rw same refl

-- ---- the first of all in a round

pub some_unlike_read : {A : Type 0} (f : Parts → List A) (round : List Parts) (k : ℕ) (q : Parts) (first : Option A) → k < length round → q ≡ get_or round k q
    → first ≡ slice_get (flat_map f round) 0 → SomeUnlike (f q) first → SomeUnlikeFirst f round k
some_unlike_read f round k q first short is first_is unlike =
    subst (λ x. SomeUnlike (f x) (slice_get (flat_map f round) 0)) (picture_read round k q short is) (subst (SomeUnlike (f q)) first_is unlike)

pub some_alike_read : {A : Type 0} (f : Parts → List A) (round : List Parts) (k : ℕ) (q : Parts) (first : Option A) → k < length round → q ≡ get_or round k q
    → first ≡ slice_get (flat_map f round) 0 → AllByRecursion (λ x. first ≡ Some x) (f q) → ¬ SomeUnlikeFirst f round k
some_alike_read f round k q first short is first_is all =
    λ unlike. unlike (subst (λ y. AllByRecursion (λ x. slice_get (flat_map f round) 0 ≡ Some x) (f y)) (picture_read round k q short is)
    (subst (λ o. AllByRecursion (λ x. o ≡ Some x) (f q)) first_is all))

-- it is the first of source 0, where that has one
pub first_read : {A : Type 0} (f : Parts → List A) (round : List Parts) (q : Parts) (x : A) → 0 < length round → q ≡ get_or round 0 q
    → slice_get (f q) 0 ≡ Some x → slice_get (flat_map f round) 0 ≡ Some x
first_read f [] q x some is at = absurd (omega (arith, some))
first_read f (r ∷ round) q x some is at =
    ap (λ ys. slice_get ys 0) (flat_map-cons f r round) ∙ front_first (f r) (flat_map f round) x (ap (λ y. slice_get (f y) 0) (sym is) ∙ at)
