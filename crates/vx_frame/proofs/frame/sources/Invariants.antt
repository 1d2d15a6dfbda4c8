use Rattle.std.proofs.Common.{◌≡◌, map, take}
use Rattle.vx_frame.specs.inner.Frames.{sets_in, sets_of}
use Rattle.vx_frame.proofs.frame.sources.Given as goal

abbrev pub invariant-loop-k : goal.invariant-loop-k
invariant-loop-k l = map sets_in l.sources.items ≡ map sets_of (take l.k l.round)
