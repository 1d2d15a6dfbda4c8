use Rattle.std.proofs.Common.{[], ◌∙◌, sym, ap, arith, Err}
use Rattle.std.specs.Prelude.{None}
use Rattle.std.proofs.lemmas.Result.{err_from_is_err_and}
use Rattle.vx_assemble.specs.inner.Held.{begun_of}
use Rattle.vx_assemble.proofs.Ordering.{start_ordered}
use Rattle.vx_assemble.proofs.Slots.{header_ordered}
use Rattle.vx_assemble.proofs.Slicing.{alone_open, alone_fails, alone_several, took_alone}
use Rattle.vx_assemble.proofs.state.State.take_alone.Goals as goal

pub returns-in_err-check_closed-clause-answer : goal.returns-in_err-check_closed-clause-answer
returns-in_err-check_closed-clause-answer c R h before held =
    let p = err_from_is_err_and c.from_residual.result c.from_residual.ensures.1 in
    rw (p.1, p.2) (alone_open R c.args.self.now before c.args.unit.bytes.now _ (c.in_err-check_closed.ensures before held))

pub returns-in_err-begun-clause-answer : goal.returns-in_err-begun-clause-answer
returns-in_err-begun-clause-answer c R h before held =
    let p = err_from_is_err_and c.from_residual-in_err-begun.result c.from_residual-in_err-begun.ensures.1 in
    rw (p.1, p.2) (alone_fails R c.args.self.now before c.args.unit.bytes.now _ (c.in_ok-check_closed.ensures before held)
    (c.in_err-begun.ensures.answer R h before held.apart))

pub returns-then-value-gt1-clause-answer : goal.returns-then-value-gt1-clause-answer
returns-then-value-gt1-clause-answer c R h before held =
    alone_several R before c.args.unit.bytes.now (begun_of c.in_ok-begun.begun None) c.value.result.now.slices (c.in_ok-check_closed.ensures before held)
    (c.in_ok-begun.ensures.answer R h before held.apart)
    (ap (λ s. s.slices) c.value.ensures ∙ c.in_ok-begun.ensures.header.sets.slices) c.if-value-gt1.true
    ∙ ap Err (sym c.structure.ensures)

pub returns-clause-answer : goal.returns-clause-answer
returns-clause-answer c R h before held =
    took_alone R c.args.self.now c.start.new.self c.take_first.new.self before c.args.unit.bytes.now c.in_ok-begun.begun
    c.value.result.now.slices c.take_first.result held (c.in_ok-check_closed.ensures before held)
    (c.in_ok-begun.ensures.answer R h before held.apart) (ap (λ s. s.slices) c.value.ensures ∙ c.in_ok-begun.ensures.header.sets.slices) c.if-value-gt1.false
    c.in_ok-start.ensures.ok
    (λ apart b head. c.take_first.ensures.answer R h before apart b head)

pub take_first-requires : goal.take_first-requires
take_first-requires c =
    rw c.in_ok-start.ensures.ok
    (start_ordered c.in_ok-begun.begun [] c.args.self.now c.requires c.in_ok-begun.ensures.stored
    (header_ordered c.in_ok-begun.begun [] c.args.self.now.picture c.requires.picture c.in_ok-begun.ensures.header (omega arith)))
