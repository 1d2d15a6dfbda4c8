use Rattle.std.proofs.Common.{◌≡◌, vec_len}
use Rattle.vx_push.specs.inner.Mixing.{AreMarked}
use Rattle.vx_push.proofs.mixer.look_at_each.Given as goal

-- those so far were marked
abbrev pub invariant-loop-k : goal.invariant-loop-k
invariant-loop-k l = (vec_len l.ended ≡ vec_len l.fn.ended) × AreMarked l.fn.intakes l.ended.items l.k
