use Rattle.std.proofs.Common.{length, ◌-◌}
use Rattle.vx_annexb.specs.Places.{AreZeros}
use Rattle.vx_annexb.proofs.search.skip_zeros.Given as goal

abbrev pub invariant-loop-at : goal.invariant-loop-at
invariant-loop-at l = AreZeros l.bytes l.from l.at

abbrev pub decreases-loop-at : goal.decreases-loop-at
decreases-loop-at l = length l.bytes - l.at
