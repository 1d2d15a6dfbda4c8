use Rattle.std.proofs.Common.{◌≡◌, take}
use Rattle.vx_pic.proofs.kept_fields.keep_all.Given as goal

abbrev pub invariant-loop-i : goal.invariant-loop-i
invariant-loop-i l = l.kept ≡ take l.i l.items
