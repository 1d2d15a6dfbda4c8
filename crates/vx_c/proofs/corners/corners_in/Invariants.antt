use Rattle.std.proofs.Common.{◌≡◌, map, take}
use Rattle.vx_c.specs.Merger.{corner_of}
use Rattle.vx_c.proofs.corners.corners_in.Given as goal

-- the corners so far
abbrev pub invariant-loop-corner : goal.invariant-loop-corner
invariant-loop-corner l = l.made.items ≡ map corner_of (take l.corner-index l.fn.corners)
