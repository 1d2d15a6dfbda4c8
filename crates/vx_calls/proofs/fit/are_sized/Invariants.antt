use Rattle.std.proofs.Common.{◌≡◌, ℕ, ◌<◌, length}
use Rattle.vx_fit.specs.FrameLines.{corner_at, part_at}
use Rattle.vx_fit.specs.Sources.{IsSized}
use Rattle.vx_calls.proofs.fit.are_sized.Given as goal

abbrev pub invariant-loop-k : goal.invariant-loop-k
invariant-loop-k l = record {
  same : length l.corners ≡ length l.parts;
  sized : (j : ℕ) → j < l.k → IsSized (corner_at l.corners j) (part_at l.parts j);
}
