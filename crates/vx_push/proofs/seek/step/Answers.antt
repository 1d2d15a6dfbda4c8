use Rattle.std.proofs.Common.{◌∙◌, sym}
use Rattle.vx_push.proofs.Steps.{takes, stops, completes_more}
use Rattle.vx_push.proofs.seek.step.Goals as goal

pub returns-in-Ok-Some-clause-answer : goal.returns-in-Ok-Some-clause-answer
returns-in-Ok-Some-clause-answer c R of g ps taken =
    let answer = rw c.in-Ok-Some.field-0-is at c.in-Ok-Some.ensures.answer in
    rw c.state_of.ensures.state (takes R g ps _ c.next.new.self taken c.in-Ok-Some.taken (answer R of g taken.places taken.before taken.fed)
    (λ is places before fed. c.state_of.ensures.lends (c.state_of.ensures.state ∙ is) R g places before fed))

pub returns-in-Err-clause-answer : goal.returns-in-Err-clause-answer
returns-in-Err-clause-answer c R of g ps taken =
    rw (c.stopped.ensures, c.unit.ensures) (stops R g ps _ c.next.new.self taken c.in-Err.fault c.in-Err.ensures.kept (c.in-Err.ensures.answer R of g taken.places taken.before taken.fed))

pub returns-in-Ok-Some-clause-units : goal.returns-in-Ok-Some-clause-units
returns-in-Ok-Some-clause-units c is =
    let counts = rw c.in-Ok-Some.field-0-is at c.in-Ok-Some.ensures.counts in
    completes_more c.in-Ok-Some.taken _ _ (sym c.state_of.ensures.state ∙ is) counts
