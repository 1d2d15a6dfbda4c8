use Rattle.vx_assemble.proofs.Named.{ThereSoFar}
use Rattle.vx_assemble.proofs.join.check_named.Given as goal

abbrev pub invariant-loop-i : goal.invariant-loop-i
invariant-loop-i l = ThereSoFar l.bodies l.kind l.field l.fields l.i
