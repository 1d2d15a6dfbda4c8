use Rattle.std.proofs.Common.{◌≡◌, vec_len}
use Rattle.vx_push.specs.inner.Mixing.{AreNew}
use Rattle.vx_push.proofs.mixer.intakes_for.Given as goal

-- nothing was handed in to each so far
abbrev pub invariant-loop : goal.invariant-loop
invariant-loop l = (vec_len l.intakes ≡ l.counter) × AreNew l.intakes.items
