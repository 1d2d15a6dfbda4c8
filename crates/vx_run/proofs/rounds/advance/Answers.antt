use Rattle.vx_run.proofs.Corners.{advanced_from}
use Rattle.vx_run.proofs.rounds.advance.Goals as goal

pub returns-in-Ok-Picture-clause-answer : goal.returns-in-Ok-Picture-clause-answer
returns-in-Ok-Picture-clause-answer g c R of b units readings fed needed =
    rw c.in-Ok-Picture.field-0-is at c.in-Ok-Picture.ensures.answer R of b units readings fed needed

pub returns-in-Ok-End-clause-answer : goal.returns-in-Ok-End-clause-answer
returns-in-Ok-End-clause-answer g c R of b units readings fed needed =
    rw c.in-Ok-End.field-0-is at c.in-Ok-End.ensures.answer R of b units readings fed needed

pub returns-in-Err-clause-answer : goal.returns-in-Err-clause-answer
returns-in-Err-clause-answer g c R of b units readings fed needed =
    rw (c.of_feed.ensures, c.unit.ensures) (advanced_from c.args.k R b units readings c.step.new.feed c.in-Err.fault (c.in-Err.ensures.answer R of b units readings fed needed))
