use Rattle.std.proofs.Common.{◌≡◌, length}
use Rattle.vx_rpl.specs.HeaderLists as spec
use Rattle.vx_rpl.proofs.lists.behind_entries.Given as goal

abbrev pub invariant-loop-item : goal.invariant-loop-item
invariant-loop-item l = spec.behind_entries l.left ≡ spec.behind_entries l.items

abbrev pub decreases-loop-item : goal.decreases-loop-item
decreases-loop-item l = length l.left
