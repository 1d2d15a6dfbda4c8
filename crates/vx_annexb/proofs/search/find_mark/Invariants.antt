use Rattle.std.proofs.Common.{ℕ, ◌<◌, ◌≤◌, length, ◌-◌}
use Rattle.vx_annexb.specs.Places.{IsMark}
use Rattle.vx_annexb.proofs.search.find_mark.Given as goal

abbrev pub invariant-loop-zeros : goal.invariant-loop-zeros
invariant-loop-zeros l = (l.from ≤ l.zeros) × (l.zeros ≤ length l.bytes) × (0 < l.reach) × ((k : ℕ) → l.from ≤ k → k < l.zeros → ¬ IsMark l.most l.bytes k)

abbrev pub decreases-loop-zeros : goal.decreases-loop-zeros
decreases-loop-zeros l = length l.bytes - l.zeros
