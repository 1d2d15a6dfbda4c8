use Rattle.std.proofs.Common.{◌≢◌, ◌<◌, ℕ, slice_index}
use Rattle.vx_merge.proofs.send.place_of.Given as goal

abbrev pub invariant-loop-k : goal.invariant-loop-k
invariant-loop-k l = (j : ℕ) → j < l.k → slice_index l.ids j ≢ l.id
