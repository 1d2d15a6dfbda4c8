use Rattle.vx_merge.proofs.BodyEnds.{all_end, none_end}
use Rattle.vx_merge.proofs.needed.bodies_end.Goals as goal

pub returns-then-has_none : goal.returns-then-has_none
returns-then-has_none c = none_end c.args.round.now c.args.bodies.now c.requires.gathered c.requires.few c.if-has_none.ensures

pub returns : goal.returns
returns c = all_end c.args.round.now c.all_bodies.ensures
