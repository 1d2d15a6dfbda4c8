use Rattle.vx_push.specs.inner.Cutting.{StillCuts, units_left}
use Rattle.vx_push.proofs.cutter.Cutter.next.Given as goal

abbrev pub invariant-loop-kind : goal.invariant-loop-kind
invariant-loop-kind l = StillCuts l.initial.self l.self

abbrev pub decreases-loop-kind : goal.decreases-loop-kind
decreases-loop-kind l = units_left l.self.intake
