use Rattle.std.proofs.Common.{ℕ, ◌<◌}
use Rattle.vx_fit.specs.FrameLines.{KeepsLines}
use Rattle.vx_fit.proofs.lines.lowest_broken.Given as goal

abbrev pub invariant-loop-k : goal.invariant-loop-k
invariant-loop-k l = (j : ℕ) → j < l.k → KeepsLines l.corners l.parts j
