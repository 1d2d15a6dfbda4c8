use Rattle.std.proofs.Common.{ap, ◌∙◌}
use Rattle.vx_frame.proofs.Reading.{picture_read}
use Rattle.vx_merge.proofs.round.messages_unit.Goals as goal

pub returns : goal.returns
returns c =
    let is = picture_read c.args.round.now 0 c.index-round-0.result c.requires c.index-round-0.is in
    let tid = ap (λ k. k.temporal_id) (c.kind.ensures.value ∙ ap (λ q. q.kind) is) in
    let messages = c.messages.ensures ∙ ap (λ q. q.messages) is in
    rw (tid, messages) at c.sei_unit.ensures
