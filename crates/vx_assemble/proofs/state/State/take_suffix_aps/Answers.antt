use Rattle.std.proofs.Common.{◌∙◌, sym, ap, subst, Ok}
use Rattle.std.specs.Prelude.{IfSome}
use Rattle.std.proofs.lemmas.Result.{err_from_is_err_and}
use Rattle.vx_aps.specs.Aps.{IsValid}
use Rattle.vx_assemble.specs.inner.Changes.{with_aps}
use Rattle.vx_assemble.specs.inner.Order.{IsInOrder}
use Rattle.vx_assemble.proofs.Ordering.{aps_ordered}
use Rattle.vx_assemble.proofs.Taking.{failed_aps, dropped_aps, took_aps}
use Rattle.vx_assemble.proofs.state.State.take_suffix_aps.Goals as goal

pub returns-in_err-aps-clause-answer : goal.returns-in_err-aps-clause-answer
returns-in_err-aps-clause-answer c R h before held =
    let p = err_from_is_err_and c.from_residual.result c.from_residual.ensures.1 in
    rw (p.1, p.2) (failed_aps R c.args.self.now before c.args.unit.bytes.now c.args.unit.rbsp.now _ c.args.unit.spells (c.in_err-aps.ensures.answer R h))

pub returns-in_default-clause-answer : goal.returns-in_default-clause-answer
returns-in_default-clause-answer c R h before held =
    dropped_aps R c.args.self.now before c.args.unit.bytes.now c.args.unit.rbsp.now c.args.unit.spells
    (c.in_ok-aps.ensures.answer R h ∙ ap Ok c.in_default.is) held

pub returns-clause-answer : goal.returns-clause-answer
returns-clause-answer c R h before held =
    took_aps R c.args.self.now c.keep_aps.new.self before c.args.unit.bytes.now c.args.unit.rbsp.now c.in-Some.aps c.args.unit.spells
    (c.in_ok-aps.ensures.answer R h ∙ ap Ok c.in-Some.is)
    (subst (λ o. IfSome o IsValid) c.in-Some.is c.in_ok-aps.ensures.valid) held
    (c.keep_aps.ensures ∙ ap (λ a. with_aps a c.args.self.now) c.in-Ok.ensures.ok)

pub returns-clause-order : goal.returns-clause-order
returns-clause-order c =
    subst IsInOrder (sym (c.keep_aps.ensures ∙ ap (λ a. with_aps a c.args.self.now) c.in-Ok.ensures.ok))
    (aps_ordered c.in-Some.aps c.args.self.now (subst (λ o. IfSome o IsValid) c.in-Some.is c.in_ok-aps.ensures.valid) c.requires)
