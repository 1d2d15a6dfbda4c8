use Rattle.vx_push.proofs.Coming.{flushes, flushed_later}
use Rattle.vx_push.proofs.intake.Intake.flush.Goals as goal

pub returns-in-Waits-clause-comes : goal.returns-in-Waits-clause-comes
returns-in-Waits-clause-comes c waits R of h ps come =
    let is = rw (← c.self.view_is) at waits in
    let was = rw (← c.self.view_is) at come in
    let gave = c.give_zeros-self-inside in
    flushes R c.self.inside.feed c.self.inside.state c.self.inside.flushed c.self.inside.ended h ps was is c.self.invariant.ready gave.new.feed gave.result _
    gave.ensures.left gave.ensures.unended gave.ensures.whole (λ g t. gave.ensures.comes R of g ps t)

pub returns-in-Picture-clause-later : goal.returns-in-Picture-clause-later
returns-in-Picture-clause-later c holds open_ none R h ps come =
    flushed_later R c.self.inside.feed c.self.inside.state c.self.inside.flushed c.self.inside.ended h ps (rw (← c.self.view_is) at holds) (rw (← c.self.view_is) at none) (rw (← c.self.view_is) at open_)
    (rw (← c.self.view_is) at come)
