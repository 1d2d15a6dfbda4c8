use Rattle.std.proofs.Common.{List, ◌++◌, map}
use Rattle.std.specs.Prelude.{flat_map}
use Rattle.std.specs.List.{range_with_len}
use Rattle.vx_pic.specs.Written.{Set, SetUnit}
use Rattle.vx_write.specs.Sending.{AreSent}
use Rattle.vx_merge.specs.Needed.{sets_with_id}
use Rattle.vx_merge.specs.inner.Sending.{AreApart, AreOfOthers}
use Rattle.vx_merge.proofs.send.send_named.Given as goal

-- the sets of the ids below were sent
abbrev pub invariant-loop-id : goal.invariant-loop-id
invariant-loop-id l =
    (before : List SetUnit) (sets : List Set) → AreApart l.named.ids.items
    → AreSent l.search.temporal_id before sets l.fn.slots (map (λ u. u.items) l.fn.units.items) → AreOfOthers l.search.kind sets
    → AreSent l.search.temporal_id before (sets ++ flat_map (sets_with_id l.search.kind (map (λ b. b.now) l.named.bodies) l.named.ids.items) (range_with_len 0 l.id))
    l.slots (map (λ u. u.items) l.units.items)
