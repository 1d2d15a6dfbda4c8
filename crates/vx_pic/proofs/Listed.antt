-- Lists that a loop copies, one by one.
use Rattle.std.proofs.Common.{◌≡◌, ℕ, zero, suc, ◌+◌, ◌<◌, List, [], ◌∷◌, ◌++◌, length, map, take, slice_index, ap, sym, ◌∙◌, arith}
use Rattle.std.proofs.Math.Seq.{take-suc}
use Rattle.std.proofs.lemmas.List.FromFn.{map-range_with_len_more}
use Rattle.std.specs.List.{range_with_len}
use Rattle.vx_layout.specs.Bounds.{Rises, RisesAbove}

-- one entry more of a list that is given by its indices
pub one_more_of : {X : Type 0} (f : ℕ → X) (n : ℕ) (xs : List X) (x : X) → xs ≡ map f (range_with_len 0 n) → x ≡ f n → map f (range_with_len 0 (n + 1)) ≡ xs ++ x ∷ []
one_more_of f n xs x before same = map-range_with_len_more f 0 n n (omega arith) ∙ ap (λ l. l ++ f n ∷ []) (sym before) ∙ ap (λ y. xs ++ y ∷ []) (sym same)

above_front : (a : ℕ) (bounds : List ℕ) (i : ℕ) → RisesAbove a bounds → RisesAbove a (take i bounds)
above_front a [] zero rises = tt
above_front a [] (suc i) rises = tt
above_front a (b ∷ bounds) zero rises = tt
above_front a (b ∷ bounds) (suc i) rises = (rises.0, above_front b bounds i rises.1)

front_rises : (bounds : List ℕ) (i : ℕ) → Rises bounds → Rises (take i bounds)
front_rises [] zero rises = tt
front_rises [] (suc i) rises = tt
front_rises (b ∷ bounds) zero rises = tt
front_rises (b ∷ bounds) (suc i) rises = (rises.0, above_front b bounds i rises.1)

-- a bound more of bounds
pub bound_more : (bounds copy : List ℕ) (i b : ℕ) → i < length bounds → copy ≡ take i bounds → b ≡ slice_index bounds i → take (i + 1) bounds ≡ copy ++ b ∷ []
bound_more bounds copy i b below before same =
    let more : take (suc i) bounds ≡ take i bounds ++ slice_index bounds i ∷ [] = take-suc bounds i 0 below in
    let next : i + 1 ≡ suc i = omega arith in
    ap (λ n. take n bounds) next ∙ more ∙ ap (λ l. l ++ slice_index bounds i ∷ []) (sym before) ∙ ap (λ y. copy ++ y ∷ []) (sym same)

pub bounds_rise : (bounds copy : List ℕ) (i b : ℕ) → Rises bounds → i < length bounds → copy ≡ take i bounds → b ≡ slice_index bounds i → Rises (copy ++ b ∷ [])
bounds_rise bounds copy i b rises below before same = rw (← (bound_more bounds copy i b below before same)) (front_rises bounds (i + 1) rises)
