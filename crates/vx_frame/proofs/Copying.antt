-- Bounds once more, one by one.
use Rattle.std.proofs.Common.{◌≡◌, ℕ, zero, suc, ◌+◌, ◌<◌, List, [], ◌∷◌, ◌++◌, length, take, slice_index, sym, ap, subst, ◌∙◌}
use Rattle.std.proofs.lemmas.List.{take_more}
use Rattle.vx_layout.specs.Bounds.{Rises, RisesAbove}

above_take : (a : ℕ) (bounds : List ℕ) (i : ℕ) → RisesAbove a bounds → RisesAbove a (take i bounds)
above_take a [] zero rises = tt
above_take a [] (suc i) rises = tt
above_take a (b ∷ bounds) zero rises = tt
above_take a (b ∷ bounds) (suc i) rises = (rises.0, above_take b bounds i rises.1)

rises_take : (bounds : List ℕ) (i : ℕ) → Rises bounds → Rises (take i bounds)
rises_take [] zero rises = tt
rises_take [] (suc i) rises = tt
rises_take (b ∷ bounds) zero rises = tt
rises_take (b ∷ bounds) (suc i) rises = (rises.0, above_take b bounds i rises.1)

pub rises_step : (bounds copy : List ℕ) (i x : ℕ) → Rises bounds → copy ≡ take i bounds → i < length bounds → x ≡ slice_index bounds i → Rises (copy ++ x ∷ [])
rises_step bounds copy i x rises is within at =
    let more : take (i + 1) bounds ≡ copy ++ x ∷ [] = take_more bounds i 0 within ∙ ap (λ y. take i bounds ++ y ∷ []) (sym at) ∙ ap (λ xs. xs ++ x ∷ []) (sym is) in
    subst Rises more (rises_take bounds (i + 1) rises)
