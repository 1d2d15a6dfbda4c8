use Rattle.std.proofs.Common.{◌/◌, ◌%◌, subst, below_more, arith}
use Rattle.std.specs.Prelude.{IfSome}
use Rattle.vx_pic.specs.Inputs.{body_of}
use Rattle.vx_merge.specs.inner.Sending.{CanEnd}
use Rattle.vx_merge.proofs.BodyEnds.{ends_all, ends_lent}
use Rattle.vx_merge.proofs.needed.bodies_of.Goals as goal

pub loop-place-preserved : goal.loop-place-preserved
loop-place-preserved c =
    let q = c.args.picture.now in
    below_more (λ i. IfSome (body_of q (i / 8) (i % 8)) CanEnd) c.loop-place.place c.loop-place.invariant
    (subst (λ o. IfSome o CanEnd) c.body-body.ensures.body (ends_lent c.body-body.result c.body-body.ensures.some c.body-body.ensures.ends))

pub returns : goal.returns
returns c = ends_all c.args.picture.now (λ i less. c.loop-place.invariant i (omega (arith, less)))
