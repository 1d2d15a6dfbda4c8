use Rattle.std.proofs.Common.{◌≡◌, ◌≤◌, ◌++◌, length, take}
use Rattle.vx_rpl.specs.Resolved as spec
use Rattle.vx_rpl.proofs.resolved.structures.Given as goal

-- the structures so far and those that the items left tell are those of the list
abbrev pub invariant-loop-item : goal.invariant-loop-item
invariant-loop-item l =
    (length l.list ≤ 64) × (take 64 (l.list ++ spec.structures_from l.weighted l.left) ≡ take 64 (spec.structures_from l.weighted l.items))

abbrev pub decreases-loop-item : goal.decreases-loop-item
decreases-loop-item l = length l.left
