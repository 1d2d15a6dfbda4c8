use Rattle.vx_push.proofs.Cutting.{cut_none}
use Rattle.vx_push.proofs.cutter.Cutter.new.Goals as goal

pub returns-clause-cut : goal.returns-clause-cut
returns-clause-cut c R =
    let task = c.limited.ensures.task in
    rw (c.new-2.ensures.written, c.new-2.ensures.held) (cut_none R c.args.task c.in_ok-intake.intake c.limited.result (c.in_ok-intake.ensures.comes R) c.in_ok-intake.ensures.waits task.0 task.1 task.2 c.limited.ensures.stands)
