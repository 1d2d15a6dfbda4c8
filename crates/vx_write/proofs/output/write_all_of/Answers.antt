use Rattle.std.proofs.Common.{rules}
use Rattle.std.proofs.lemmas.Result.{err_from_is_err_and}
use Rattle.vx_write.proofs.Writing.{list_split, takes_stop}
use Rattle.vx_write.proofs.output.write_all_of.Goals as goal

pub returns-in_err-write_one : goal.returns-in_err-write_one
returns-in_err-write_one g c =
    let p = err_from_is_err_and c.from_residual.result c.from_residual.ensures.1 in
    rw p.1
    (takes_stop _ _ _ _ _ _ _ _ _ p.0 p.0 (list_split _ c.args.units.now c.loop-unit.unit-index c.unit-item.result (search rules) (search rules)) c.loop-unit.invariant
    (rw c.as_slice.ensures.value at c.in_err-write_one.ensures))
