use Rattle.std.proofs.Common.{◌∙◌}
use Rattle.vx_push.proofs.Cutting.{cuts_more, answers_picture, answers_end}
use Rattle.vx_push.proofs.cutter.Cutter.next.Goals as goal

pub loop-kind-preserved : goal.loop-kind-preserved
loop-kind-preserved c =
    let answer = rw c.in-Ok-None.field-0-is at c.in-Ok-None.ensures.answer in
    let still = c.loop-kind.invariant in
    cuts_more c.args.self.now c.loop-kind.self c.step.new.self still (answer still.held still.going) c.step.ensures.held c.step.ensures.going

pub returns-in-Ok-Some-clause-answer : goal.returns-in-Ok-Some-clause-answer
returns-in-Ok-Some-clause-answer c held going R of t h ps done cut =
    let answer = rw c.in-Ok-Some.field-0-is at c.in-Ok-Some.ensures.answer in
    let still = c.loop-kind.invariant in
    let answers = answers_picture c.args.self.now c.loop-kind.self c.step.new.self still R of t h ps done cut c.in-Ok-Some.kind (λ qs so_far. answer still.held still.going R of t h qs done so_far) in
    rw (← c.self-in-loop-kind.view_is) at answers

pub returns-in-Err-clause-answer : goal.returns-in-Err-clause-answer
returns-in-Err-clause-answer c held going R of t h ps done cut =
    let still = c.loop-kind.invariant in
    let answers = answers_end c.args.self.now c.loop-kind.self c.step.new.self still R of t h ps done cut c.in-Err.cut (c.step.ensures.going ∙ still.going)
    (λ qs so_far. c.in-Err.ensures.answer still.held still.going R of t h qs done so_far) in
    rw c.end_of-self-inside.ensures (rw (← c.self-in-loop-kind.view_is) at answers)
