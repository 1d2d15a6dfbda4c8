use Rattle.vx_layout.proofs.Cutting.{CutSoFar}
use Rattle.vx_layout.proofs.region.cut.Given as goal

abbrev pub invariant-loop-i : goal.invariant-loop-i
invariant-loop-i l = CutSoFar l.bounds l.from l.size l.inner l.i
