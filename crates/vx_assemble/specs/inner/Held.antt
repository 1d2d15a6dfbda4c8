-- What an assembler keeps of the units that it took, and how that is tied to what they were read as.
use Rattle.std.specs.Prelude.{◌≡◌, ℕ, ◌-◌, pos, List, [], ◌∷◌, length, map, Option, Some, None, option_map}
use Rattle.std.specs.List.{slice_index_or, slice_range}
use Rattle.vx_bits.specs.declared.list.Item.{Item}
use Rattle.vx_fields.specs.declared.aps.TheConstants.{aps_params_type, aps_adaptation_parameter_set_id}
use Rattle.vx_aps.specs.declared.aps.Aps.{Aps}
use Rattle.vx_pic.specs.declared.accepted.Accepted.{Accepted}
use Rattle.vx_pic.specs.declared.kind.Kind.{Kind}
use Rattle.vx_pic.specs.declared.picture.SliceSlot.{SliceSlot}
use Rattle.vx_pic.specs.Counted.{previous_of}
use Rattle.vx_pic.specs.Counts.{previous}
use Rattle.vx_pic.specs.Parts.{header_unit_in, stored_sets}
use Rattle.vx_pic.specs.Readings.{Begun, Slice, Reading, vps_read, aps_read}
use Rattle.vx_pic.specs.Readings.{stored_sps, stored_pps, is_ended, gathered}
use Rattle.vx_pic.specs.Readings.{Picture, messages_of, Current, nothing, headed, going, current, pictures}
use Rattle.vx_pic.specs.Rules.{unit_size, picture_size}
use Rattle.vx_assemble.specs.declared.fault.First.{First}
use Rattle.vx_assemble.specs.declared.state.BegunPicture.{BegunPicture}
use Rattle.vx_assemble.specs.declared.state.CurrentPicture.{CurrentPicture}
use Rattle.vx_assemble.specs.declared.state.Stage.{Stage}
use Rattle.vx_assemble.specs.declared.state.Stage.TheVariants as stages
use Rattle.vx_assemble.specs.declared.state.State.{State}

-- The model of an assembler: what it keeps of the units, its result for the last one, and why it takes no more.
pub record Held : Type 0 where
  pub state : State
  pub told : Accepted
  pub first : Option First

-- ---- the picture that was begun last

-- Its header with what is in force for it, if this is its PH unit.
abbrev pub begun_of : BegunPicture → Option (List ℕ) → Begun
begun_of b unit = record {
  sps = b.sets.sps;
  pps = b.sets.pps;
  layout = b.sets.layout;
  header = b.header.fields;
  temporal_id = b.temporal_id;
  unit = unit;
}

-- The header, and the picture's kind, as far as they were taken.
abbrev pub header_at : Stage → Option BegunPicture
header_at stages.Nothing = None
header_at (stages.Headed b) = Some b
header_at (stages.Going g) = Some g.begun

abbrev pub kind_at : Stage → Option Kind
kind_at stages.Nothing = None
kind_at (stages.Headed b) = None
kind_at (stages.Going g) = Some g.kind

abbrev pub begun_in : CurrentPicture → Option Begun
begun_in s = option_map (λ b. begun_of b (header_unit_in s.bytes s.header_end)) (header_at s.stage)

-- A slice that is kept by its places in the picture's bytes.
abbrev pub slice_of : List ℕ → SliceSlot → Slice
slice_of bytes slot = record {
  unit = slice_range bytes slot.start slot.end;
  header = record { fields = slot.header.fields; subpic = slot.header.subpic; payload = slot.payload - slot.start };
}

-- A header, whose slices are to come.
pub record IsHeaded (s : CurrentPicture) (b : Begun) : Type 0 where
  pub begun : begun_in s ≡ Some b
  pub kind : kind_at s.stage ≡ None
  pub slices : s.slices ≡ []
  pub size : length s.bytes ≡ unit_size b.unit

-- A picture, with the slices so far.
pub record IsGoing (s : CurrentPicture) (p : Picture) : Type 0 where
  pub begun : begun_in s ≡ Some p.begun
  pub kind : kind_at s.stage ≡ Some p.kind
  pub slices : map (slice_of s.bytes) s.slices ≡ p.slices
  pub size : length s.bytes ≡ picture_size p
  pub bodies : s.bodies ≡ stored_sets p.before
  pub messages : s.messages ≡ messages_of p

abbrev pub Keeps : CurrentPicture → Current → Type 0
Keeps s nothing = s.stage ≡ stages.Nothing
Keeps s (headed b) = IsHeaded s b
Keeps s (going p) = IsGoing s p

-- ---- all that is kept

abbrev pub last_sps : List Picture → Option (List Item)
last_sps [] = None
last_sps (p ∷ earlier) = Some p.begun.sps

-- Of what is kept.
abbrev pub last_held : State → Option (List Item)
last_held s = option_map (λ f. f.sps) s.last

-- What is kept apart from that picture, after units that were read as these, the latest first.
pub record IsApart (s : State) (before : List Reading) : Type 0 where
  pub sps : (id : ℕ) → slice_index_or s.sps id None ≡ stored_sps id before
  pub pps : (id : ℕ) → slice_index_or s.pps id None ≡ stored_pps id before
  pub aps : s.aps ≡ stored_sets before
  pub gathered : s.gathered ≡ gathered before
  pub last : last_held s ≡ last_sps (pictures before)
  pub previous : previous_of s.previous ≡ previous (pictures before)
  pub ended : s.ended ≡ is_ended before

abbrev pub aps_items : Aps → List Item
aps_items a =
    record { field = aps_params_type; value = pos a.kind }
    ∷ record { field = aps_adaptation_parameter_set_id; value = pos a.id }
    ∷ []

-- The items of the latest unit, if it isn't kept in a table.
abbrev pub AreItems : List Item → List Reading → Type 0
AreItems items [] = Unit {0}
AreItems items (vps_read v ∷ before) = items ≡ v
AreItems items (aps_read a ∷ before) = items ≡ aps_items a
AreItems items (_ ∷ before) = Unit {0}

-- What is kept after units that were read as these, none of which was refused.
pub record IsHeld (s : State) (before : List Reading) : Type 0 where
  pub apart : IsApart s before
  pub picture : Keeps s.picture (current before)
  pub items : AreItems s.fields before
