use Rattle.std.proofs.Common.{ℕ, ◌<◌, false}
use Rattle.std.specs.Fn.{FnReturnsAt}
use Rattle.vx_frame.specs.Rounds.{picture_at}
use Rattle.vx_frame.proofs.told.lowest_source.Given as goal

abbrev pub invariant-loop-k : goal.invariant-loop-k
invariant-loop-k g l = (j : ℕ) → j < l.k → FnReturnsAt g.F.Fn l.holds (picture_at l.round j) false
