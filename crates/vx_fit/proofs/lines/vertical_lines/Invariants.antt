use Rattle.vx_fit.specs.FrameLines.{IsVertical}
use Rattle.vx_fit.specs.inner.Passing.{LinesBelow}
use Rattle.vx_fit.proofs.lines.vertical_lines.Given as goal

abbrev pub invariant-loop-n : goal.invariant-loop-n
invariant-loop-n l = LinesBelow (IsVertical l.corners l.parts) l.bounds l.n
