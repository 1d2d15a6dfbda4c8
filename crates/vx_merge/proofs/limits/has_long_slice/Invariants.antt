use Rattle.std.proofs.Common.{◌≡◌, false, take}
use Rattle.std.specs.List.{list_any}
use Rattle.vx_merge.specs.inner.Making.{is_long, slice_units}
use Rattle.vx_merge.proofs.limits.has_long_slice.Given as goal

abbrev pub invariant-loop-i : goal.invariant-loop-i
invariant-loop-i l = list_any is_long (take l.i (slice_units l.units)) ≡ false
