use Rattle.std.proofs.Common.{ℕ, ◌<◌}
use Rattle.vx_fit.specs.FitFaults.{IsOffGrid}
use Rattle.vx_fit.proofs.regions.lowest_off_grid.Given as goal

abbrev pub invariant-loop-k : goal.invariant-loop-k
invariant-loop-k l = (j : ℕ) → j < l.k → ¬ IsOffGrid l.placed l.ctb j
