use Rattle.std.proofs.lemmas.Result.{err_from_is_err_and}
use Rattle.vx_write.proofs.Writing.{takes_then, takes_cut}
use Rattle.vx_merge.proofs.output.write_units.Goals as goal

pub returns-in_err-write_all_of : goal.returns-in_err-write_all_of
returns-in_err-write_all_of g c =
    let p = err_from_is_err_and c.from_residual-in_err-write_all_of.result c.from_residual-in_err-write_all_of.ensures.1 in
    let sets = rw c.as_slice.ensures.value at c.in_err-write_all_of.ensures in
    rw p.1 (takes_then _ _ _ _ _ _ _ _ _ c.in_ok-write_end.ensures (takes_cut _ _ _ _ _ _ p.0 p.0 sets))

pub returns-in_err-write_some : goal.returns-in_err-write_some
returns-in_err-write_some g c =
    let p = err_from_is_err_and c.from_residual-in_err-write_some.result c.from_residual-in_err-write_some.ensures.1 in
    let sets = rw c.as_slice.ensures.value at c.in_ok-write_all_of.ensures in
    let sei = rw c.sei_unit.ensures at c.in_err-write_some.ensures in
    rw p.1 (takes_then _ _ _ _ _ _ _ _ _ c.in_ok-write_end.ensures (takes_then _ _ _ _ _ _ _ _ _ sets (takes_cut _ _ _ _ _ _ p.0 p.0 sei)))

pub returns-in_err-write_one : goal.returns-in_err-write_one
returns-in_err-write_one g c =
    let p = err_from_is_err_and c.from_residual-in_err-write_one.result c.from_residual-in_err-write_one.ensures.1 in
    let sets = rw c.as_slice.ensures.value at c.in_ok-write_all_of.ensures in
    let sei = rw c.sei_unit.ensures at c.in_ok-write_some.ensures in
    let header = rw c.as_slice-2.ensures.value at c.in_err-write_one.ensures in
    rw p.1
    (takes_then _ _ _ _ _ _ _ _ _ c.in_ok-write_end.ensures
    (takes_then _ _ _ _ _ _ _ _ _ sets (takes_then _ _ _ _ _ _ _ _ _ sei (takes_cut _ _ _ _ _ _ p.0 p.0 header))))

pub returns : goal.returns
returns g c =
    let sets = rw c.as_slice.ensures.value at c.in_ok-write_all_of.ensures in
    let sei = rw c.sei_unit.ensures at c.in_ok-write_some.ensures in
    let header = rw c.as_slice-2.ensures.value at c.in_ok-write_one.ensures in
    takes_then _ _ _ _ _ _ _ _ _ c.in_ok-write_end.ensures
    (takes_then _ _ _ _ _ _ _ _ _ sets (takes_then _ _ _ _ _ _ _ _ _ sei (takes_then _ _ _ _ _ _ _ _ _ header c.write_slices.ensures)))
