use Rattle.std.proofs.Common.{◌≤◌, length, arith, Ok}
use Rattle.std.proofs.lemmas.List.{take_all}
use Rattle.std.proofs.lemmas.Result.{err_from_is_err_and}
use Rattle.vx_write.proofs.Writing.{takes_then, takes_stop}
use Rattle.vx_merge.specs.inner.Making.{slice_units}
use Rattle.vx_merge.proofs.Limiting.{item_split, next_item, slices_past}
use Rattle.vx_merge.proofs.output.write_slices.Goals as goal

pub returns-in_err-write_slice : goal.returns-in_err-write_slice
returns-in_err-write_slice g c =
    let p = err_from_is_err_and c.from_residual.result c.from_residual.ensures.1 in
    rw p.1 (takes_stop _ _ _ _ _ _ _ _ _ p.0 p.0 (item_split (slice_units c.args.units.now) c.loop-i.i _ c.slice.ensures) c.loop-i.invariant c.in_err-write_slice.ensures)

pub loop-i-preserved : goal.loop-i-preserved
loop-i-preserved g c =
    rw (next_item (slice_units c.args.units.now) c.loop-i.i _ c.slice.ensures)
    (takes_then _ _ _ _ _ _ _ _ (Ok tt) c.loop-i.invariant c.in_ok-write_slice.ensures)

pub returns : goal.returns
returns g c =
    let past : length (slice_units c.args.units.now) ≤ c.loop-i.i = slices_past c.args.units.now c.loop-i.i c.requires (omega arith) in
    rw (← take_all c.loop-i.i (slice_units c.args.units.now) past) c.loop-i.invariant
