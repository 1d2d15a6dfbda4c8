use Rattle.std.proofs.Common.{ℕ, ◌<◌}
use Rattle.vx_frame.specs.Rounds.{SomeUnlikeFirst}
use Rattle.vx_frame.specs.Rules.{outputs_of}
use Rattle.vx_frame.proofs.slices.lowest_other_output.Given as goal

abbrev pub invariant-loop-k : goal.invariant-loop-k
invariant-loop-k l = (j : ℕ) → j < l.k → ¬ SomeUnlikeFirst outputs_of l.round j
