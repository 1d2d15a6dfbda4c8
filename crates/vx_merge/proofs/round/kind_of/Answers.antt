use Rattle.std.proofs.Common.{◌<◌, length, ap, subst, ◌∙◌}
use Rattle.vx_frame.proofs.Reading.{picture_read}
use Rattle.vx_merge.proofs.round.kind_of.Goals as goal

pub returns-clause-value : goal.returns-clause-value
returns-clause-value c = c.kind.ensures.value ∙ ap (λ q. q.kind) (picture_read c.args.round.now 0 c.index-round-0.result c.requires c.index-round-0.is)

pub returns-clause-some : goal.returns-clause-some
returns-clause-some c =
    let number = c.slice_count-some.ensures.number ∙ ap (λ q. length q.slices) (picture_read c.args.round.now 0 c.index-round-0.result c.requires c.index-round-0.is) in
    subst (λ n. 0 < n) number c.slice_count-some.ensures.some
