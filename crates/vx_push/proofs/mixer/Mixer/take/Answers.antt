use Rattle.std.proofs.Common.{inl, inr}
use Rattle.vx_push.proofs.Mixing.{mixed_taken}
use Rattle.vx_push.proofs.mixer.Mixer.take.Goals as goal

pub returns-clause-mixed : goal.returns-clause-mixed
returns-clause-mixed c R given done mixed =
    let h = rw (← c.self.view_is) at mixed in
    elim c.take.ensures.store [
      | inl same ↦ rw same h
      | inr went ↦ rw went.0 (mixed_taken R _ c.take.new.self.written.taken given done h)
    ]
