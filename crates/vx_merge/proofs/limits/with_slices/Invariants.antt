use Rattle.std.proofs.Common.{◌≡◌, ◌+◌, take}
use Rattle.std.specs.List.{AllByRecursion}
use Rattle.vx_bits.specs.Codes.{AreBytes}
use Rattle.vx_merge.specs.inner.Making.{capped, size_of, slice_units}
use Rattle.vx_merge.proofs.limits.with_slices.Given as goal

abbrev pub invariant-loop-i : goal.invariant-loop-i
invariant-loop-i l = (l.sum ≡ capped (l.total + size_of l.each (take l.i (slice_units l.units)))) × AllByRecursion AreBytes (take l.i (slice_units l.units))
