use Rattle.std.proofs.Common.{ℕ, ◌<◌}
use Rattle.vx_fit.specs.FitFaults.{region_at}
use Rattle.vx_fit.specs.Placing.{Overlap}
use Rattle.vx_fit.proofs.regions.overlaps_lower.Given as goal

abbrev pub invariant-loop-j : goal.invariant-loop-j
invariant-loop-j l = (i : ℕ) → i < l.j → ¬ Overlap (region_at l.placed i) (region_at l.placed l.k)
