use Rattle.vx_frame.specs.Bodies.{has_scaling, scaling_body}
use Rattle.vx_frame.proofs.Seeking.{has_read, lacks_lowest, none_lowest, tells_lowest}
use Rattle.vx_frame.proofs.headers.has_other_scaling.Goals as goal

pub returns-in_default : goal.returns-in_default
returns-in_default c = record { unlike = tt; alike = none_lowest has_scaling scaling_body c.args.round.now c.args.k (rw c.in_default.is at c.requires.lowest) }

pub returns-then-not-has_scaling : goal.returns-then-not-has_scaling
returns-then-not-has_scaling c = record {
  unlike = tt;
  alike = lacks_lowest has_scaling scaling_body c.args.round.now c.args.k (has_read has_scaling c.args.round.now c.args.k c.index-round-k.result _ _ c.requires.k c.index-round-k.is c.has_scaling.ensures c.if-not-has_scaling.true);
}

pub returns : goal.returns
returns c =
    let p = tells_lowest has_scaling scaling_body c.args.round.now c.args.k c.in-Some.j c.index-round-k.result c.index-round-from.result _ _ c.same_body.result
    (rw c.in-Some.is at c.requires.lowest) (has_read has_scaling c.args.round.now c.args.k c.index-round-k.result _ _ c.requires.k c.index-round-k.is c.has_scaling.ensures c.if-not-has_scaling.false)
    c.requires.k c.index-round-k.is (rw c.from.ensures at c.index-round-from.is) c.scaling_body.ensures c.scaling_body-2.ensures c.same_body.ensures.same c.same_body.ensures.other in
    record { unlike = p.has; alike = p.none }
