-- What a merger keeps from round to round. Our own.
use Rattle.std.specs.Prelude.{ℕ, List, Option, None, IfSome}
use Rattle.vx_pic.specs.Written.{SetUnit}
use Rattle.vx_write.specs.Slots.{AreLastOf, Sent}
use Rattle.vx_frame.specs.declared.corner.Corner.{Corner}
use Rattle.vx_frame.specs.inner.Frames.{IsKeptFrame}
use Rattle.vx_merge.specs.declared.progress.Progress.{Progress}
use Rattle.vx_merge.specs.Merging.{Merging}

-- These are the last sets of some that were sent.
abbrev pub HasHistory : List Sent → Type 0
HasHistory slots = (history : List SetUnit) × AreLastOf history slots

-- The frame that is kept is one of these corners, at this level, and the slots are the last of some sets.
pub record IsProgress (corners : List Corner) (level : Option ℕ) (p : Progress) : Type 0 where
  pub frame : IfSome p.frame (λ f. IsKeptFrame corners level f.value)
  pub slots : HasHistory p.slots

-- A merger that goes on with it.
abbrev pub merging_of : List Corner → Option ℕ → Progress → Merging
merging_of corners level p = record { corners = corners; level = level; slots = p.slots; bytes = p.bytes; first = None }
