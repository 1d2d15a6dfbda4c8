use Rattle.vx_merge.proofs.merger.pictures.Goals as goal

pub joined-requires : goal.joined-requires
joined-requires g c = c.requires

pub returns-then-joins : goal.returns-then-joins
returns-then-joins g c = rw c.if-joins.true c.joined.ensures

pub lent-requires : goal.lent-requires
lent-requires g c = c.requires

pub returns : goal.returns
returns g c = rw c.if-joins.false c.lent.ensures
