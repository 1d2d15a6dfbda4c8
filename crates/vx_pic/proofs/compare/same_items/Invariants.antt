use Rattle.std.proofs.Common.{◌≡◌, drop}
use Rattle.vx_pic.specs.Sets as sets
use Rattle.vx_pic.proofs.compare.same_items.Given as goal

-- they are the same where what is left of both is
abbrev pub invariant-loop-i : goal.invariant-loop-i
invariant-loop-i l = sets.same_items l.items l.others ≡ sets.same_items (drop l.i l.items) (drop l.i l.others)
