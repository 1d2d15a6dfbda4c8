use Rattle.std.proofs.Common.{◌≡◌, ap, sym, ◌∙◌, below_more, arith}
use Rattle.vx_frame.specs.Rounds.{picture_at}
use Rattle.vx_frame.proofs.Reading.{picture_read}
use Rattle.vx_frame.proofs.headers.have_same_items.Goals as goal

pub loop-k-preserved : goal.loop-k-preserved
loop-k-preserved c =
    let round = c.args.round.now in
    let k = c.loop-k.k in
    let own = c.header.ensures.value ∙ ap (λ q. q.header) (picture_read round k c.index-round-k.result c.loop-k-test.true c.index-round-k.is) in
    let first = c.header-in-loop-k.ensures.value ∙ ap (λ q. q.header) (picture_read round 0 c.index-round-0.result c.requires c.index-round-0.is) in
    below_more (λ j. (picture_at round j).header.fields ≡ (picture_at round 0).header.fields) k c.loop-k.invariant
    (ap (λ h. h.fields) (sym own) ∙ (c.if-not-same_items.ensures ∙ ap (λ h. h.fields) first))

pub returns : goal.returns
returns c = λ k short. c.loop-k.invariant k (omega (arith, short))
