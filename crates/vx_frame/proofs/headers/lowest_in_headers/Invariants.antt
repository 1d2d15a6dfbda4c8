use Rattle.std.proofs.Common.{ℕ, ◌<◌}
use Rattle.vx_frame.specs.Rules.{picture_header}
use Rattle.vx_frame.proofs.headers.lowest_in_headers.Given as goal

abbrev pub invariant-loop-k : goal.invariant-loop-k
invariant-loop-k l = (j : ℕ) → j < l.k → ¬ (picture_header l.round).breaks j
