use Rattle.std.proofs.Common.{◌≡◌, count_by, take}
use Rattle.vx_rpl.specs.Lists.{is_long}
use Rattle.vx_rpl.proofs.walk.long_entries.Given as goal

-- those of the entries seen so far
abbrev pub invariant-loop-i : goal.invariant-loop-i
invariant-loop-i l = l.count ≡ count_by is_long (take l.i l.list)
