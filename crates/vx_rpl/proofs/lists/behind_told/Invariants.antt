use Rattle.std.proofs.Common.{◌≡◌, drop}
use Rattle.vx_rpl.specs.HeaderLists as spec
use Rattle.vx_rpl.proofs.lists.behind_told.Given as goal

-- behind the entries so far, so many are left
abbrev pub invariant-loop-i : goal.invariant-loop-i
invariant-loop-i l = spec.behind_told (drop l.i l.list) l.left ≡ spec.behind_told l.list l.items
