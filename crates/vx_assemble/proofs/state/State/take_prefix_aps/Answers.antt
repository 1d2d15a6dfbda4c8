use Rattle.std.proofs.lemmas.Result.{err_from_is_err_and}
use Rattle.vx_assemble.proofs.Taking.{prefix_within, took_prefix}
use Rattle.vx_assemble.proofs.state.State.take_prefix_aps.Goals as goal

pub returns-in_err-check_outside-clause-answer : goal.returns-in_err-check_outside-clause-answer
returns-in_err-check_outside-clause-answer c R h before held =
    let p = err_from_is_err_and c.from_residual.result c.from_residual.ensures.1 in
    rw (p.1, p.2) (prefix_within R before c.args.unit.bytes.now c.args.self.now _ (c.in_err-check_outside.ensures before held))

pub returns-clause-answer : goal.returns-clause-answer
returns-clause-answer c R h before held =
    took_prefix R c.take_suffix_aps.new.self before c.args.unit.bytes.now c.take_suffix_aps.result (c.in_ok-check_outside.ensures before held)
    (c.take_suffix_aps.ensures.answer R h before held)
