use Rattle.std.proofs.lemmas.Result.{err_from_is_err_and}
use Rattle.vx_table.proofs.Readings.{reads_error, reads_cut_short}
use Rattle.vx_rpl.proofs.read.read_lists.Goals as goal

pub returns-in_err-read_items-clause-answer : goal.returns-in_err-read_items-clause-answer
returns-in_err-read_items-clause-answer c =
    let p = err_from_is_err_and c.from_residual.result c.from_residual.ensures.1 in
    rw (p.1, p.2) (reads_error _ (rw (c.in_err-read_items.was, c.scope-scope.ensures) at c.read_items.ensures.answer))

pub returns-in_err-lists-clause-answer : goal.returns-in_err-lists-clause-answer
returns-in_err-lists-clause-answer c =
    let p = err_from_is_err_and c.from_residual-in_err-lists.result c.from_residual-in_err-lists.ensures.1 in
    rw (p.1, p.2) (reads_cut_short tt (rw (c.in_ok-read_items.was, c.scope-scope.ensures) at c.read_items.ensures.answer))

pub returns-clause-answer : goal.returns-clause-answer
returns-clause-answer c =
    let r = rw (c.in_ok-read_items.was, c.scope-scope.ensures) at c.read_items.ensures.answer in
    record { is = r.is; only = r.only; refusal = r.refusal }
