use Rattle.std.proofs.Common.{rules, ◌≡◌, ◌∙◌, [], ◌++◌, take, sym}
use Rattle.vx_push.specs.declared.intake.State.TheVariants.{Waits}
use Rattle.vx_push.proofs.Coming.{pushed, unheld}
use Rattle.vx_push.proofs.Handing.{waits_no_more}
use Rattle.vx_push.proofs.intake.Intake.push.Goals as goal

pub returns-in-Ok-clause-comes : goal.returns-in-Ok-clause-comes
returns-in-Ok-clause-comes c waits R of h ps come =
    let is = rw (← c.self.view_is) at waits in
    let was = rw (← c.self.view_is) at come in
    pushed R c.self.inside.feed c.self.inside.state c.self.inside.flushed c.self.inside.ended h ps was is c.self.invariant.ready c.seek-self-inside.new.feed c.seek-self-inside.result
    (take c.in-Ok.count c.args.piece.now) c.seek-self-inside.ensures.left (λ end. c.feed.ensures.unended (sym c.seek-self-inside.ensures.closed ∙ end))
    (λ g t. c.seek-self-inside.ensures.comes R of (g ++ take c.in-Ok.count c.args.piece.now) ps
    (record { places = t.places; before = t.before; fed = c.in-Ok.ensures.fed R g t.places t.before t.fed; done = t.done }))

pub returns-in-Err-clause-comes : goal.returns-in-Err-clause-comes
returns-in-Err-clause-comes c waits R of h ps come =
    let is = rw (← c.self.view_is) at waits in
    let was = rw (← c.self.view_is) at come in
    unheld R c.self.inside.feed c.self.inside.state c.self.inside.flushed c.self.inside.ended h ps was is c.self.invariant.ready c.feed.new.self c.self.inside.state []

pub returns-in-Ok-clause-ended : goal.returns-in-Ok-clause-ended
returns-in-Ok-clause-ended c R h ps come all =
    let waits : c.self.inside.state ≡ Waits = search rules in
    let was = rw (← c.self.view_is) at come in
    absurd (waits_no_more R _ h ps was all waits)

pub returns-in-Err-clause-ended : goal.returns-in-Err-clause-ended
returns-in-Err-clause-ended c R h ps come all =
    let waits : c.self.inside.state ≡ Waits = search rules in
    let was = rw (← c.self.view_is) at come in
    absurd (waits_no_more R _ h ps was all waits)
