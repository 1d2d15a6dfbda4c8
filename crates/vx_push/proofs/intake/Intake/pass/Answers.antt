use Rattle.vx_push.proofs.Coming.{holding, passes}
use Rattle.vx_push.proofs.intake.Intake.pass.Goals as goal

pub returns-in-Picture-clause-comes : goal.returns-in-Picture-clause-comes
returns-in-Picture-clause-comes c holds R of h ps come =
    let is = rw (← c.self.view_is) at holds in
    let was = rw (← c.self.view_is) at come in
    let went = c.go_on-self-inside in
    let g = holding R c.self.inside.feed c.self.inside.state c.self.inside.flushed c.self.inside.ended h ps is was in
    passes R went.new.feed went.result went.new.flushed c.self.inside.ended h ps went.ensures.left went.ensures.unflushed went.ensures.unended (went.ensures.comes R of h ps g)
