-- Slices, as they are added to what is kept.
use Rattle.std.specs.Prelude.{◌≡◌, ℕ, cond, List, [], length, Option, Some, None}
use Rattle.vx_pic.specs.declared.accepted.Accepted.{Accepted}
use Rattle.vx_pic.specs.declared.accepted.Accepted.TheVariants as accepted
use Rattle.vx_pic.specs.Readings.{Begun, Reading, first_slice}
use Rattle.vx_pic.specs.Rules.{unit_size}
use Rattle.vx_assemble.specs.declared.readers.ReadSlice.{ReadSlice}
use Rattle.vx_assemble.specs.declared.slices.Opened.{Opened}
use Rattle.vx_assemble.specs.declared.slices.Whole.{Whole}
use Rattle.vx_assemble.specs.declared.state.BegunPicture.{BegunPicture}
use Rattle.vx_assemble.specs.declared.state.CurrentPicture.{CurrentPicture}
use Rattle.vx_assemble.specs.declared.state.Stage.{Stage}
use Rattle.vx_assemble.specs.declared.state.Stage.TheVariants as stages
use Rattle.vx_assemble.specs.declared.state.GoingPicture.{GoingPicture}
use Rattle.vx_assemble.specs.declared.state.State.{State}
use Rattle.vx_assemble.specs.inner.Held.{begun_of}
use Rattle.vx_assemble.specs.inner.Takes.{slice_read_as}
use Rattle.vx_assemble.specs.inner.Joining.{IsJoined}
use Rattle.vx_assemble.specs.inner.Changes.{with_kind, with_slice, with_begun_picture, counts_behind, came_all, settled}

-- A picture of which no slice was taken.
pub record IsFresh (c : CurrentPicture) (k : BegunPicture) (b : Begun) : Type 0 where
  pub begun : begun_of k b.unit ≡ b
  pub slices : c.slices ≡ []
  pub size : length c.bytes ≡ unit_size b.unit

-- The first slice as it is read.
abbrev pub first_read_as : Begun → List ℕ → Opened → Reading
first_read_as b unit o = first_slice b o.kind (slice_read_as unit o.read)

-- A slice has joined the picture.
pub record HasJoined (c : CurrentPicture) (size : ℕ) (r : ReadSlice) : Type 0 where
  pub going : GoingPicture
  pub is : c.stage ≡ stages.Going going
  pub joined : IsJoined going.begun going.kind.nal_type c.bodies size r

-- The first one has, for a picture whose header was taken.
pub record HasJoinedFirst (c : CurrentPicture) (size : ℕ) (o : Opened) : Type 0 where
  pub begun : BegunPicture
  pub is : c.stage ≡ stages.Headed begun
  pub joined : IsJoined begun o.kind.nal_type o.bodies size o.read

-- With what a picture begins with.
abbrev pub with_first : List ℕ → Opened → State → State
with_first unit o s = with_begun_picture (with_slice unit o.read (with_kind o.kind o.bodies s.gathered s.picture)) s

-- Whether a picture is complete is returned, and kept.
abbrev pub told_settled : BegunPicture → CurrentPicture → Accepted
told_settled k c = cond (came_all k c) accepted.PictureDone accepted.Nothing

pub record IsSettled (old new : State) (what : Accepted) : Type 0 where
  pub new_is : (g : GoingPicture) → old.picture.stage ≡ stages.Going g → new ≡ settled g.begun g.kind old
  pub told : (g : GoingPicture) → old.picture.stage ≡ stages.Going g → what ≡ told_settled g.begun old.picture

-- What later pictures need after the picture that was begun, if all its slices were taken.
abbrev pub whole_of : Stage → State → Option Whole
whole_of stages.Nothing s = None
whole_of (stages.Headed b) s = None
whole_of (stages.Going g) s =
    cond (came_all g.begun s.picture) (Some (record { sets = g.begun.sets; previous = counts_behind g.begun g.kind s.previous })) None
