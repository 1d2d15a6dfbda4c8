use Rattle.std.proofs.Common.{◌≡◌, take, map}
use Rattle.vx_layout.specs.Regions.{counted_from}
use Rattle.vx_layout.proofs.region.count_from.Given as goal

abbrev pub invariant-loop-i : goal.invariant-loop-i
invariant-loop-i l = l.moved ≡ map (counted_from l.corner) (take l.i l.rects)
