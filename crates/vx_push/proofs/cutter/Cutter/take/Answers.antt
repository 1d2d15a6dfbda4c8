use Rattle.std.proofs.Common.{inl, inr}
use Rattle.vx_push.proofs.Cutting.{cut_taken}
use Rattle.vx_push.proofs.cutter.Cutter.take.Goals as goal

pub returns-clause-cut : goal.returns-clause-cut
returns-clause-cut c R t h ps done cut =
    let was = rw (← c.self.view_is) at cut in
    elim c.take.ensures.store [
      | inl same ↦ rw same was
      | inr went ↦ rw went.0 (cut_taken R t _ c.take.new.self.written.taken h ps done was)
    ]
