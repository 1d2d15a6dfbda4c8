use Rattle.std.proofs.lemmas.Result.{err_from_is_err_and}
use Rattle.vx_assemble.proofs.Taking.{end_open, took_end}
use Rattle.vx_assemble.proofs.state.State.take_end.Goals as goal

pub returns-in_err-check_closed-clause-answer : goal.returns-in_err-check_closed-clause-answer
returns-in_err-check_closed-clause-answer c R u h before held =
    let p = err_from_is_err_and c.from_residual.result c.from_residual.ensures.1 in
    rw (p.1, p.2) (end_open R c.args.self.now before u _ (c.in_err-check_closed.ensures before held))

pub returns-clause-answer : goal.returns-clause-answer
returns-clause-answer c R u h before held =
    took_end R c.args.self.now c.keep_end.new.self before u (c.in_ok-check_closed.ensures before held) held c.keep_end.ensures
