use Rattle.std.proofs.Common.{ℕ, ◌<◌}
use Rattle.vx_fit.specs.FitFaults.{region_at}
use Rattle.vx_fit.specs.Placing.{in_ctus}
use Rattle.vx_layout.specs.Rects.{Precedes}
use Rattle.vx_fit.proofs.regions.comes_too_early.Given as goal

abbrev pub invariant-loop-j : goal.invariant-loop-j
invariant-loop-j l = (i : ℕ) → l.k < i → i < l.j → Precedes l.region (in_ctus l.ctb (region_at l.placed i))
