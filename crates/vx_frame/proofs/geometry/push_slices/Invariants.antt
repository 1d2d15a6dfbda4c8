use Rattle.std.proofs.Common.{◌≡◌, ◌++◌, map, take}
use Rattle.vx_layout.specs.Regions.{moved_to}
use Rattle.vx_frame.proofs.geometry.push_slices.Given as goal

abbrev pub invariant-loop-i : goal.invariant-loop-i
invariant-loop-i l = l.slices ≡ l.initial.slices ++ map (moved_to l.corner) (take l.i l.picture.slices)
