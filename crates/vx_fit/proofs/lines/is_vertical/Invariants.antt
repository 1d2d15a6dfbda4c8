use Rattle.std.proofs.Common.{ℕ, ◌<◌}
use Rattle.vx_fit.specs.FrameLines.{HasBound, corner_at, part_at}
use Rattle.vx_fit.proofs.lines.is_vertical.Given as goal

abbrev pub invariant-loop-k : goal.invariant-loop-k
invariant-loop-k l = (j : ℕ) → j < l.k → ¬ HasBound (corner_at l.corners j).x (part_at l.parts j).columns l.n
