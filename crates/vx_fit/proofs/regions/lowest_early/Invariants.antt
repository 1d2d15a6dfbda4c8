use Rattle.std.proofs.Common.{ℕ, ◌<◌}
use Rattle.vx_fit.specs.FitFaults.{ComesTooEarly}
use Rattle.vx_fit.proofs.regions.lowest_early.Given as goal

abbrev pub invariant-loop-k : goal.invariant-loop-k
invariant-loop-k l = (j : ℕ) → j < l.k → ¬ ComesTooEarly l.placed l.ctb j
