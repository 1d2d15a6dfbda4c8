use Rattle.vx_fit.specs.FrameLines.{IsHorizontal}
use Rattle.vx_fit.specs.inner.Passing.{LinesBelow}
use Rattle.vx_fit.proofs.lines.horizontal_lines.Given as goal

abbrev pub invariant-loop-n : goal.invariant-loop-n
invariant-loop-n l = LinesBelow (IsHorizontal l.corners l.parts) l.bounds l.n
