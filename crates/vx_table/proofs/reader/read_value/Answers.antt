use Rattle.std.proofs.lemmas.Result.{err_from_is_err_and}
use Rattle.vx_table.proofs.Readings.{reads_error, front_is}
use Rattle.vx_table.proofs.reader.read_value.Goals as goal

pub returns-in_err-read_table-clause-answer : goal.returns-in_err-read_table-clause-answer
returns-in_err-read_table-clause-answer c =
    let p = err_from_is_err_and c.from_residual.result c.from_residual.ensures.1 in
    let read = rw (c.in_err-read_table.was, c.new-items.ensures, front_is c.new-bits.result c.args.rbsp.now c.new-bits.ensures.total c.new-bits.ensures.left) at c.read_table.ensures.answer in
    rw (p.1, p.2) (c.read_table.new.bits, c.read_table.new.items, reads_error _ read)
