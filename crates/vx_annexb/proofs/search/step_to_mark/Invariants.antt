use Rattle.std.proofs.Common.{ℕ, ◌<◌, ◌≤◌, length, ◌-◌}
use Rattle.vx_annexb.specs.Places.{IsMark}
use Rattle.vx_annexb.proofs.search.step_to_mark.Given as goal

abbrev pub invariant-loop-at : goal.invariant-loop-at
invariant-loop-at l = (l.from ≤ l.at) × (l.at ≤ length l.bytes) × ((k : ℕ) → l.from ≤ k → k < l.at → ¬ IsMark l.most l.bytes k)

abbrev pub decreases-loop-at : goal.decreases-loop-at
decreases-loop-at l = length l.bytes - l.at
