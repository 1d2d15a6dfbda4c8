use Rattle.std.proofs.Common.{◌≡◌, ◌*◌, ◌≤◌, length, take}
use Rattle.vx_layout.specs.Rects.{in_order}
use Rattle.vx_assemble.proofs.join.slices_before.Given as goal

abbrev pub invariant-loop-i : goal.invariant-loop-i
invariant-loop-i l = (l.count ≡ length (in_order l.layout.slices (take l.i l.layout.subpics))) × (l.count ≤ l.i * 4294967296)
