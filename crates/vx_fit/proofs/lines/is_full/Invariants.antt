use Rattle.std.proofs.Common.{ℕ, ◌<◌}
use Rattle.vx_fit.specs.FrameLines.{HasBound, corner_at, part_at}
use Rattle.vx_fit.proofs.lines.is_full.Given as goal

abbrev pub invariant-loop-k : goal.invariant-loop-k
invariant-loop-k l = (j : ℕ) → j < l.k → ¬ HasBound (corner_at l.corners j).y (part_at l.parts j).rows l.n
