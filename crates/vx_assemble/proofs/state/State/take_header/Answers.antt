use Rattle.std.proofs.lemmas.Result.{err_from_is_err_and}
use Rattle.vx_assemble.proofs.Ordering.{start_ordered}
use Rattle.vx_assemble.proofs.Slots.{header_ordered, unit_short}
use Rattle.vx_assemble.proofs.Taking.{header_open, failed_header, took_header}
use Rattle.vx_assemble.proofs.state.State.take_header.Goals as goal

pub returns-in_err-check_closed-clause-answer : goal.returns-in_err-check_closed-clause-answer
returns-in_err-check_closed-clause-answer c R h before held =
    let p = err_from_is_err_and c.from_residual.result c.from_residual.ensures.1 in
    rw (p.1, p.2) (header_open R c.args.self.now before c.args.unit.bytes.now _ (c.in_err-check_closed.ensures before held))

pub returns-in_err-begun-clause-answer : goal.returns-in_err-begun-clause-answer
returns-in_err-begun-clause-answer c R h before held =
    let p = err_from_is_err_and c.from_residual-in_err-begun.result c.from_residual-in_err-begun.ensures.1 in
    rw (p.1, p.2) (failed_header R c.args.self.now before c.args.unit.bytes.now _ (c.in_ok-check_closed.ensures before held)
    (c.in_err-begun.ensures.answer R h before held.apart))

pub returns-clause-answer : goal.returns-clause-answer
returns-clause-answer c R h before held =
    took_header R c.args.self.now c.start.new.self before c.args.unit.bytes.now c.in_ok-begun.begun (c.in_ok-check_closed.ensures before held)
    (c.in_ok-begun.ensures.answer R h before held.apart)
    c.args.unit.sound.header.bytes held c.in_ok-start.ensures.ok

pub returns-clause-order : goal.returns-clause-order
returns-clause-order c =
    rw c.in_ok-start.ensures.ok
    (start_ordered c.in_ok-begun.begun c.args.unit.bytes.now c.args.self.now c.requires c.in_ok-begun.ensures.stored
    (header_ordered c.in_ok-begun.begun c.args.unit.bytes.now c.args.self.now.picture c.requires.picture c.in_ok-begun.ensures.header
    (unit_short c.args.unit.bytes.now c.args.unit.sound)))
