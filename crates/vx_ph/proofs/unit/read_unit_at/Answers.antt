use Rattle.std.proofs.lemmas.Result.{err_from_is_err_and}
use Rattle.vx_table.proofs.Readings.{front_is, reads_cut_short}
use Rattle.vx_ph.proofs.Spelling.{read_unit_is}
use Rattle.vx_ph.proofs.unit.read_unit_at.Goals as goal

pub returns-in_err-read_unit-clause-answer : goal.returns-in_err-read_unit-clause-answer
returns-in_err-read_unit-clause-answer c =
    let p = err_from_is_err_and c.from_residual.result c.from_residual.ensures.1 in
    let start = front_is c.new-bits.result c.args.rbsp.now c.new-bits.ensures.total c.new-bits.ensures.left in
    let read = rw (c.in_err-read_unit.was, c.new-fields.ensures, start) at c.read_unit.ensures in
    rw (p.1, p.2) (c.read_unit.new.bits, (c.read_unit.new.into, read))

pub returns-in_err-lists-clause-answer : goal.returns-in_err-lists-clause-answer
returns-in_err-lists-clause-answer c =
    let p = err_from_is_err_and c.from_residual-in_err-lists.result c.from_residual-in_err-lists.ensures.1 in
    let start = front_is c.new-bits.result c.args.rbsp.now c.new-bits.ensures.total c.new-bits.ensures.left in
    let read = rw (c.in_ok-read_unit.was, c.new-fields.ensures, start) at c.read_unit.ensures in
    rw (p.1, p.2) (c.read_unit.new.bits, (c.read_unit.new.into, reads_cut_short tt read))

pub returns-clause-answer : goal.returns-clause-answer
returns-clause-answer c =
    let start = front_is c.new-bits.result c.args.rbsp.now c.new-bits.ensures.total c.new-bits.ensures.left in
    let read = rw (c.in_ok-read_unit.was, c.new-fields.ensures, start) at c.read_unit.ensures in
    ((c.read_unit.new.bits, read), rw (c.in_ok-lists.was, c.as_slice.ensures) at c.resolve_lists.ensures)

pub returns-clause-value : goal.returns-clause-value
returns-clause-value c =
    let start = front_is c.new-bits.result c.args.rbsp.now c.new-bits.ensures.total c.new-bits.ensures.left in
    let read = rw (c.in_ok-read_unit.was, c.new-fields.ensures, start) at c.read_unit.ensures in
    record { fields = read_unit_is c.args.table.now c.args.scope.now _ c.read_unit.new.bits _ c.in_ok-read_unit.field-0 read; lists = rw (c.in_ok-lists.was, c.as_slice.ensures) at c.resolve_lists.ensures }
