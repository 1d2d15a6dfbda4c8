use Rattle.vx_push.proofs.Coming.{finishes, ended_later}
use Rattle.vx_push.proofs.intake.Intake.end.Goals as goal

pub returns-in-Waits-clause-comes : goal.returns-in-Waits-clause-comes
returns-in-Waits-clause-comes c waits R of h ps come =
    let is = rw (← c.self.view_is) at waits in
    let was = rw (← c.self.view_is) at come in
    let gave = c.give_end-self-inside in
    finishes R c.self.inside.feed c.self.inside.state c.self.inside.flushed c.self.inside.ended h ps was is c.self.invariant.ready gave.new.feed gave.result
    gave.ensures.stays gave.ensures.end (λ g t. gave.ensures.comes R of g ps t)

pub returns-in-Picture-clause-later : goal.returns-in-Picture-clause-later
returns-in-Picture-clause-later c holds R h ps come =
    ended_later R c.self.inside.feed c.self.inside.state c.self.inside.flushed c.self.inside.ended h ps (rw (← c.self.view_is) at holds) (rw (← c.self.view_is) at come)
