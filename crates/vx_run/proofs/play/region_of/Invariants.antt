use Rattle.std.proofs.Common.{◌≡◌, ◌<◌, ℕ, false, get_or}
use Rattle.vx_frame.specs.declared.corner.Corner.{Corner}
use Rattle.vx_run.specs.Play.{is_corner}
use Rattle.vx_run.proofs.play.region_of.Given as goal

-- those before it are others
abbrev pub invariant-loop-k : goal.invariant-loop-k
invariant-loop-k l = (i : ℕ) (d : Corner) → i < l.k → is_corner l.fn.corner (get_or l.fn.corners i d) ≡ false
