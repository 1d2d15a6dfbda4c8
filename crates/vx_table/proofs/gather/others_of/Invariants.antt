use Rattle.std.proofs.Common.{◌≡◌, take}
use Rattle.vx_table.specs.Rewritten.{other_items}
use Rattle.vx_table.proofs.gather.others_of.Given as goal

-- those among the items seen so far
abbrev pub invariant-loop-i : goal.invariant-loop-i
invariant-loop-i l = l.others ≡ other_items l.names (take l.i l.items)
