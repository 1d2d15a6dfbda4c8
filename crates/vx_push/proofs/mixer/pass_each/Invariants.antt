use Rattle.vx_push.specs.inner.Mixing.{ArePassing}
use Rattle.vx_push.proofs.mixer.pass_each.Given as goal

-- those so far have gone on
abbrev pub invariant-loop-k : goal.invariant-loop-k
invariant-loop-k l = ArePassing l.fn.intakes.items l.intakes.items l.k
