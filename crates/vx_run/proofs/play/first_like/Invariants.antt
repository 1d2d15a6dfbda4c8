use Rattle.std.proofs.Common.{◌≡◌, ◌<◌, ℕ, false, get_or, map}
use Rattle.vx_frame.specs.declared.corner.Corner.{Corner}
use Rattle.vx_run.specs.Grammar.{texts}
use Rattle.vx_run.specs.Merge.{corners_of}
use Rattle.vx_run.specs.Play.{is_corner}
use Rattle.vx_run.specs.inner.Placings.{placing_in}
use Rattle.vx_run.proofs.play.first_like.Given as goal

-- those before it are others
abbrev pub invariant-loop-i : goal.invariant-loop-i
invariant-loop-i l = (j : ℕ) (d : Corner) → j < l.i → is_corner l.corner (get_or (corners_of (map placing_in (texts l.fn.placings.words.now))) j d) ≡ false
