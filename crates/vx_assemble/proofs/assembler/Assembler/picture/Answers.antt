use Rattle.vx_assemble.proofs.Lending.{lent_latest}
use Rattle.vx_assemble.proofs.assembler.Assembler.picture.Goals as goal

pub returns-clause-shows : goal.returns-clause-shows
returns-clause-shows c before stands =
    rw c.lend.ensures
    (lent_latest (record { state = c.self.inside.state; told = c.self.inside.told; first = c.self.inside.first }) before c.self.invariant.order.picture
    (rw (← c.self.view_is) at stands) (rw (← c.self.view_is) at c.requires))
