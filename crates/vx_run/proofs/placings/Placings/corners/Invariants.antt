use Rattle.std.proofs.Common.{◌≡◌, take}
use Rattle.vx_run.specs.Merge.{corners_of}
use Rattle.vx_run.specs.inner.Placings.{spelled}
use Rattle.vx_run.proofs.placings.Placings.corners.Given as goal

-- those so far
abbrev pub invariant-loop-k : goal.invariant-loop-k
invariant-loop-k l = l.corners.items ≡ take l.k (corners_of (spelled l.self.words.now))
