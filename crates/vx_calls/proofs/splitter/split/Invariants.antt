use Rattle.std.proofs.Common.{◌≡◌, ◌-◌, ◌≤◌, false, length}
use Rattle.vx_annexb.specs.Held.{fed}
use Rattle.vx_calls.proofs.splitter.split.Given as goal

abbrev pub invariant-loop-at : goal.invariant-loop-at
invariant-loop-at l = (l.at ≤ length l.bytes) × (l.splitter.all ≡ false) × (fed l.splitter ≡ l.at)

abbrev pub decreases-loop-at : goal.decreases-loop-at
decreases-loop-at l = length l.bytes - l.at
