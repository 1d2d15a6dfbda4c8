use Rattle.std.proofs.Common.{map, take}
use Rattle.vx_merge.specs.inner.Taking.{AreHeld}
use Rattle.vx_merge.proofs.ids.held_ids.Given as goal

abbrev pub invariant-loop-k : goal.invariant-loop-k
invariant-loop-k l = AreHeld l.slots l.search.temporal_id l.search.kind l.search.count (map (λ b. b.now) (take l.k l.bodies)) l.held.items
