use Rattle.std.proofs.Common.{◌≡◌, map, take}
use Rattle.std.specs.Prelude.{All}
use Rattle.vx_write.specs.InForce.{AreInForce}
use Rattle.vx_frame.specs.inner.Frames.{sets_in, sets_of}
use Rattle.vx_frame.proofs.frame.have_sets.Given as goal

abbrev pub invariant-loop-k : goal.invariant-loop-k
invariant-loop-k l = (map sets_in (take l.k l.sources) ≡ map sets_of (take l.k l.round)) × All AreInForce (take l.k l.round)
