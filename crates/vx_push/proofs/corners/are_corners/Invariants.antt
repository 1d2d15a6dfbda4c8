use Rattle.std.proofs.Common.{◌≡◌, ℕ, ◌<◌, Some, slice_get}
use Rattle.vx_frame.specs.declared.corner.Corner.{Corner}
use Rattle.vx_frame.specs.Corners.{IsCorner}
use Rattle.vx_push.proofs.corners.are_corners.Given as goal

-- those so far are corners
abbrev pub invariant-loop-k : goal.invariant-loop-k
invariant-loop-k l = (j : ℕ) (x : Corner) → j < l.k → slice_get l.fn.corners j ≡ Some x → IsCorner x
