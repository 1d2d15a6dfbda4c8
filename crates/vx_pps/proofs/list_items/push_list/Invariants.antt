use Rattle.std.proofs.Common.{◌++◌, List, length}
use Rattle.vx_pps.specs.Groups.{Group}
use Rattle.vx_pps.specs.Written.{list_items}
use Rattle.vx_pps.specs.inner.Found.{AreGroups}
use Rattle.vx_pps.proofs.Pushing.{ListLeft}
use Rattle.vx_pps.proofs.list_items.push_list.Given as goal

abbrev pub invariant-loop-left : goal.invariant-loop-left
invariant-loop-left l =
    (groups : List Group) → AreGroups l.tiles groups l.slices → ListLeft l.tiles l.deltas (l.fn.items ++ list_items l.tiles l.deltas groups) l.items l.left

abbrev pub decreases-loop-left : goal.decreases-loop-left
decreases-loop-left l = length l.left
