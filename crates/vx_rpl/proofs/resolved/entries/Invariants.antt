use Rattle.std.proofs.Common.{◌≡◌, ◌≤◌, ◌++◌, length, take}
use Rattle.vx_rpl.specs.Resolved as spec
use Rattle.vx_rpl.proofs.resolved.entries.Given as goal

-- the entries so far and those that the items left tell are those of the structure
abbrev pub invariant-loop-item : goal.invariant-loop-item
invariant-loop-item l =
    (length l.list ≤ 29)
    × (take 29 (l.list ++ spec.entries_from l.weighted (length l.list) l.left) ≡ take 29 (spec.entries_from l.weighted 0 l.items))

abbrev pub decreases-loop-item : goal.decreases-loop-item
decreases-loop-item l = length l.left
