use Rattle.std.proofs.Common.{ℕ, ◌<◌}
use Rattle.vx_fit.specs.FrameLines.{Crosses, corner_at, part_at}
use Rattle.vx_fit.proofs.lines.crosses_some.Given as goal

abbrev pub invariant-loop-k : goal.invariant-loop-k
invariant-loop-k l = (j : ℕ) → j < l.k → ¬ Crosses (corner_at l.corners j) (part_at l.parts j) l.n
