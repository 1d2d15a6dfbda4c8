use Rattle.std.proofs.Common.{◌≤◌, ◌<◌, length, arith, Ok}
use Rattle.std.proofs.lemmas.Result.{err_from_is_err_and}
use Rattle.vx_write.proofs.Writing.{takes_then, takes_stop}
use Rattle.vx_extract.proofs.Writing.{units_split, units_step, units_past}
use Rattle.vx_extract.proofs.output.write_slices.Goals as goal

pub returns-in_err-write_slice : goal.returns-in_err-write_slice
returns-in_err-write_slice g c =
    let p = err_from_is_err_and c.from_residual.result c.from_residual.ensures.1 in
    let within : c.loop-i.i < length c.args.picture.now.slices = omega (arith, c.slice_count-i-end.ensures.number) in
    rw p.1 (takes_stop _ _ _ _ _ _ _ _ _ p.0 p.0 (units_split c.args.picture.now c.args.target c.loop-i.i within) c.loop-i.invariant c.in_err-write_slice.ensures)

pub loop-i-preserved : goal.loop-i-preserved
loop-i-preserved g c =
    let within : c.loop-i.i < length c.args.picture.now.slices = omega (arith, c.slice_count-i-end.ensures.number) in
    rw (units_step c.args.picture.now.slices c.args.target c.loop-i.i within)
    (takes_then _ _ _ _ _ _ _ _ (Ok tt) c.loop-i.invariant c.in_ok-write_slice.ensures)

pub returns : goal.returns
returns g c =
    let past : length c.args.picture.now.slices ≤ c.loop-i.i = omega (arith, c.slice_count-i-end.ensures.number) in
    rw (← units_past c.args.picture.now c.args.target c.loop-i.i past) c.loop-i.invariant
