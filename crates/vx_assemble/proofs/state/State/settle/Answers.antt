use Rattle.std.proofs.Common.{sym, ◌∙◌}
use Rattle.std.proofs.lemmas.Result.{err_from_is_err_and}
use Rattle.vx_assemble.proofs.Whole.{whole_done}
use Rattle.vx_assemble.proofs.state.State.settle.Goals as goal

pub returns-in_default-clause-order : goal.returns-in_default-clause-order
returns-in_default-clause-order c = c.requires.order

pub returns-in_default-clause-done : goal.returns-in_default-clause-done
returns-in_default-clause-done c is = absurd (cc)

pub returns-in_err-whole : goal.returns-in_err-whole
returns-in_err-whole c =
    let p = err_from_is_err_and c.from_residual.result c.from_residual.ensures.1 in
    record { ok = rw p.1 tt; order = c.requires.order; done = rw p.1 tt }

pub returns : goal.returns
returns c =
    let done = whole_done c.args.self.now c.in-Some.whole c.requires.order c.requires.some (sym c.in-Some.is ∙ c.in_ok-whole.ensures) in
    record { ok = done.settled; order = done.order; done = λ _. done.complete }
