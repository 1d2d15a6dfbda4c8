use Rattle.std.proofs.Common.{◌≡◌, take}
use Rattle.vx_run.specs.Verify.{spots_of}
use Rattle.vx_run.specs.inner.Placings.{spelled}
use Rattle.vx_run.proofs.verify.spots_of.Given as goal

-- those so far
abbrev pub invariant-loop-k : goal.invariant-loop-k
invariant-loop-k l = l.spots.items ≡ take l.k (spots_of (spelled l.placings.words.now))
