-- Regions that have no fault fit together.
use Rattle.std.proofs.Common.{ℕ, zero, suc, ◌*◌, ◌<◌, length, arith, inl, inr, refl}
use Rattle.std.proofs.lemmas.Bool.{cases_eq}
use Rattle.std.specs.List.{All, AllPairs}
use Rattle.vx_fit.specs.declared.placed.FitFault.TheVariants.{TooLarge, Geometry, Order}
use Rattle.vx_fit.specs.FitFaults.{ComesTooEarly, IsOffGrid, OverlapsLower}
use Rattle.vx_fit.specs.laws.Fitting.{FaultlessFits}
use Rattle.vx_fit.specs.Lowest.{IsLowest}
use Rattle.vx_fit.specs.Placing.{IsFilled, IsOnGrid, Overlap, frame_height, frame_width}
use Rattle.vx_fit.specs.inner.Searches.{areas}
use Rattle.vx_fit.proofs.Areas.{filled_fails, filled_tells}
use Rattle.vx_fit.proofs.Together.{apart_all, grid_all, order_all}

-- where none below m is broken and m isn't the lowest that is, m isn't broken either
none_below : (count : ℕ) (Breaks : ℕ → Type 0) → ((k : ℕ) → ¬ IsLowest count Breaks k) → (m k : ℕ) → k < m → k < count → ¬ Breaks k
none_below count Breaks none zero k below short = absurd (omega arith)
none_below count Breaks none (suc m) k below short = λ broken. none k (record {
  in_range = short;
  breaks = broken;
  lower = λ j less. none_below count Breaks none m j (omega arith) (omega arith);
})

-- where none is the lowest that is broken, none is broken
none_broken : (count : ℕ) (Breaks : ℕ → Type 0) → ((k : ℕ) → ¬ IsLowest count Breaks k) → (k : ℕ) → k < count → ¬ Breaks k
none_broken count Breaks none k short = none_below count Breaks none (suc k) k (omega arith) short

pub faultless_fits : FaultlessFits
faultless_fits placed ctb none =
    let small = none TooLarge in
    let grid : All (IsOnGrid ctb) placed = grid_all placed ctb (none_broken (length placed) (IsOffGrid placed ctb) (λ k lowest. none (Geometry k) (record { small = small; cause = inl lowest }))) in
    let apart : AllPairs (λ p q. ¬ Overlap p q) placed =
    apart_all placed (none_broken (length placed) (OverlapsLower placed) (λ k lowest. none (Geometry k) (record { small = small; cause = inr (inl (record { grid = grid; lowest = lowest })) }))) in
    let filled : IsFilled placed = elim (cases_eq (areas placed) (frame_width placed * frame_height placed)) [
      | inl full ↦ filled_tells placed apart full
      | inr short ↦ absurd (none (Geometry 0) (record { small = small; cause = inr (inr (record { grid = grid; apart = apart; gap = filled_fails placed apart short; first = refl })) }))
    ] in
    record {
      small = small;
      grid = grid;
      apart = apart;
      filled = filled;
      order = order_all placed ctb (none_broken (length placed) (ComesTooEarly placed ctb) (λ k lowest. none (Order k) (record { small = small; grid = grid; apart = apart; filled = filled; lowest = lowest })));
    }
