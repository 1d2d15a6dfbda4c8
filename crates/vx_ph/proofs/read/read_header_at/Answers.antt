use Rattle.std.proofs.lemmas.Result.{err_from_is_err_and}
use Rattle.vx_table.proofs.Readings.{reads_cut_short}
use Rattle.vx_ph.proofs.Spelling.{read_is}
use Rattle.vx_ph.proofs.read.read_header_at.Goals as goal

pub returns-in_err-lists-clause-answer : goal.returns-in_err-lists-clause-answer
returns-in_err-lists-clause-answer c =
    let p = err_from_is_err_and c.from_residual-in_err-lists.result c.from_residual-in_err-lists.ensures.1 in
    let read = rw (c.in_ok-read_fields.was, c.new-fields.ensures) at c.read_fields.ensures in
    rw (p.1, p.2) (c.read_fields.new.into, reads_cut_short tt read)

pub returns-clause-value : goal.returns-clause-value
returns-clause-value c =
    let read = rw (c.in_ok-read_fields.was, c.new-fields.ensures) at c.read_fields.ensures in
    record { fields = read_is c.args.table.now c.args.scope.now c.args.bits.now c.read_fields.new.bits _ c.in_ok-read_fields.field-0 read; lists = rw (c.in_ok-lists.was, c.as_slice.ensures) at c.resolve_lists.ensures }
