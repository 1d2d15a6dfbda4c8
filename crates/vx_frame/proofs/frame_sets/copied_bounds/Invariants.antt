use Rattle.std.proofs.Common.{◌≡◌, take}
use Rattle.vx_frame.proofs.frame_sets.copied_bounds.Given as goal

abbrev pub invariant-loop-i : goal.invariant-loop-i
invariant-loop-i l = l.copy ≡ take l.i l.bounds
