use Rattle.std.proofs.Common.{◌≡◌, take}
use Rattle.vx_pic.proofs.in_force.copied.Given as goal

abbrev pub invariant-loop-i : goal.invariant-loop-i
invariant-loop-i l = l.copy ≡ take l.i l.list
