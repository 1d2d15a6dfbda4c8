use Rattle.std.proofs.Common.{ℕ, ◌<◌}
use Rattle.vx_frame.specs.inner.Tools.{rule_of}
use Rattle.vx_frame.proofs.sets.lowest_other.Given as goal

abbrev pub invariant-loop-k : goal.invariant-loop-k
invariant-loop-k l = (j : ℕ) → j < l.k → ¬ (rule_of l.set l.round).breaks j
