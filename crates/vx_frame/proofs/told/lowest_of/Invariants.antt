use Rattle.std.proofs.Common.{ℕ, ◌<◌, false}
use Rattle.vx_frame.proofs.told.lowest_of.Given as goal

abbrev pub invariant-loop-k : goal.invariant-loop-k
invariant-loop-k g l = (j : ℕ) → j < l.k → goal.F-post g l.holds j false
