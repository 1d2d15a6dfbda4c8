use Rattle.std.proofs.Common.{ℕ, ◌<◌}
use Rattle.vx_fit.specs.FitFaults.{OverlapsLower}
use Rattle.vx_fit.proofs.regions.lowest_overlap.Given as goal

abbrev pub invariant-loop-k : goal.invariant-loop-k
invariant-loop-k l = (j : ℕ) → j < l.k → ¬ OverlapsLower l.placed j
