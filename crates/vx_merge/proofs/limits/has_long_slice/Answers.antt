use Rattle.std.proofs.Common.{◌≤◌, length, sym, ap, ◌∙◌, arith}
use Rattle.std.specs.List.{list_any}
use Rattle.std.proofs.lemmas.List.{take_all}
use Rattle.vx_merge.specs.inner.Making.{is_long, slice_units}
use Rattle.vx_merge.proofs.Limiting.{any_found, none_more, slices_past}
use Rattle.vx_merge.proofs.limits.has_long_slice.Goals as goal

pub returns-then-is_long : goal.returns-then-is_long
returns-then-is_long c =
    sym (any_found is_long (slice_units c.args.units.now) c.loop-i.i _ c.slice-slice.ensures (sym c.is_long.ensures ∙ c.if-is_long.true))

pub loop-i-preserved : goal.loop-i-preserved
loop-i-preserved c =
    none_more is_long (slice_units c.args.units.now) c.loop-i.i _ c.slice-slice.ensures (sym c.is_long.ensures ∙ c.if-is_long.false) c.loop-i.invariant

pub returns : goal.returns
returns c =
    let past : length (slice_units c.args.units.now) ≤ c.loop-i.i = slices_past c.args.units.now c.loop-i.i c.requires (omega arith) in
    sym (sym (ap (list_any is_long) (take_all c.loop-i.i (slice_units c.args.units.now) past)) ∙ c.loop-i.invariant)
