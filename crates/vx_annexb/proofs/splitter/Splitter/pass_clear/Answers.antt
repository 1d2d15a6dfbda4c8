use Rattle.vx_annexb.specs.contracts.splitter.Splitter.{the_view}
use Rattle.vx_annexb.proofs.Steps.{Stands-passed}
use Rattle.vx_annexb.proofs.splitter.Splitter.pass_clear.Goals as goal

pub returns-then-self-clause-stands : goal.returns-then-self-clause-stands
returns-then-self-clause-stands c g units s =
    Stands-passed (the_view c.self.inside) c.pass_to_mark.result (rw c.as_slice.ensures at c.pass_to_mark.ensures.none) g units c.self.invariant
    (rw (← c.self.view_is) at c.requires.begun) (rw (← c.self.view_is) at c.requires.open) (rw (← c.self.view_is) at s)
