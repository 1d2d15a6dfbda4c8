use Rattle.std.proofs.Common.{length, ◌-◌, ◌≤◌}
use Rattle.vx_annexb.specs.Places.{AreZeros}
use Rattle.vx_annexb.proofs.search.trim_zeros.Given as goal

abbrev pub invariant-loop-end : goal.invariant-loop-end
invariant-loop-end l = (l.from ≤ l.end) × AreZeros l.bytes l.end (length l.bytes)

abbrev pub decreases-loop-end : goal.decreases-loop-end
decreases-loop-end l = l.end - l.from
