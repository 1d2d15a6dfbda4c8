use Rattle.std.proofs.Common.{◌≡◌, ◌++◌, length, drop}
use Rattle.vx_rpl.specs.HeaderLists as spec
use Rattle.vx_rpl.proofs.lists.told.Given as goal

-- the entries so far and those that the items left tell are those of the list
abbrev pub invariant-loop-i : goal.invariant-loop-i
invariant-loop-i l =
    (length l.list ≡ l.i)
    × (l.list ++ spec.entries_told l.structure.in_header (drop l.i l.structure.entries) l.left ≡ spec.told l.structure l.items)
