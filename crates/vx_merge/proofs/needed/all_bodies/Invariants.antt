use Rattle.std.proofs.Common.{take}
use Rattle.std.specs.List.{AllByRecursion}
use Rattle.vx_merge.specs.inner.Sending.{HasEnds}
use Rattle.vx_merge.proofs.needed.all_bodies.Given as goal

abbrev pub invariant-loop-k : goal.invariant-loop-k
invariant-loop-k l = AllByRecursion HasEnds (take l.k l.round)
