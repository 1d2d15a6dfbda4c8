-- The invariants of all that an assembler keeps: it is in order, within the limits.
use Rattle.std.specs.Prelude.{◌≡◌, ℕ, ◌≤◌, ◌<◌, List, length, Option, Some, None, option_map, true}
use Rattle.std.specs.List.{AllByRecursion, slice_index_or}
use Rattle.vx_bits.specs.declared.list.Item.{Item}
use Rattle.vx_aps.specs.declared.aps.Aps.{Aps}
use Rattle.vx_sei.specs.Sei.{spelled_length}
use Rattle.vx_ph.specs.InForce.{in_force, structures}
use Rattle.vx_ph.specs.Picture as picture
use Rattle.vx_pic.specs.declared.kind.Kind.{Kind}
use Rattle.vx_pic.specs.declared.accepted.Accepted.{Accepted}
use Rattle.vx_pic.specs.declared.accepted.Accepted.TheVariants as accepted
use Rattle.vx_pic.specs.declared.picture.SliceSlot.{SliceSlot}
use Rattle.vx_pic.specs.Sets.{same_size, slice_qp, is_qp, referred_sps}
use Rattle.vx_pic.specs.PictureLayout.{numbers_in, ids_of, MakeLayout}
use Rattle.vx_pic.specs.UnderSets.{picture_header_of}
use Rattle.vx_pic.specs.Parts.{IsPlaced, IsReadAt, AreThere, aps_named_by, read_of, slice_header_of}
use Rattle.vx_pic.specs.Rules.{picture_limit, message_limit}
use Rattle.vx_assemble.specs.declared.in_force.InForce.{InForce}
use Rattle.vx_assemble.specs.declared.state.BegunPicture.{BegunPicture}
use Rattle.vx_assemble.specs.declared.state.CurrentPicture.{CurrentPicture}
use Rattle.vx_assemble.specs.declared.state.MadeSets.{MadeSets}
use Rattle.vx_assemble.specs.declared.state.Stage.{Stage}
use Rattle.vx_assemble.specs.declared.state.Stage.TheVariants as stages
use Rattle.vx_assemble.specs.declared.state.State.{State}
use Rattle.vx_assemble.specs.inner.Held.{begun_of, slice_of, header_at, kind_at, last_held}
use Rattle.vx_assemble.specs.inner.Takes.{NamesSmall, at_begun}

-- What two sets make up.
pub record AreMade (f : InForce) : Type 0 where
  pub size : same_size f.sps f.pps ≡ true
  pub make : MakeLayout f.sps f.pps
  pub layout : f.layout ≡ numbers_in f.sps f.pps
  pub ids : f.ids ≡ ids_of f.sps f.pps
  pub one_each : length f.ids ≡ length f.layout.subpics
  pub slices : f.slices ≡ length f.layout.slices
  pub few : length f.layout.slices ≤ 1000
  pub few_subpics : length f.layout.subpics ≤ 1000
  pub scope : f.scope ≡ in_force f.sps f.pps

-- Two stored sets, to which a PPS id refers, and what they make up.
pub record AreStored (sps pps : List (Option (List Item))) (m : MadeSets) : Type 0 where
  pub pps_stored : slice_index_or pps m.id None ≡ Some m.sets.pps
  pub sps_stored : slice_index_or sps (referred_sps m.sets.pps) None ≡ Some m.sets.sps
  pub made : AreMade m.sets

-- Such sets are kept, or none.
abbrev pub AreKept : List (Option (List Item)) → List (Option (List Item)) → Option MadeSets → Type 0
AreKept sps pps None = Unit {0}
AreKept sps pps (Some m) = AreStored sps pps m

-- The SPS of the last header that was taken.
abbrev pub begun_sps : Stage → Option (List Item)
begun_sps stage = option_map (λ b. b.sets.sps) (header_at stage)

-- The sets that are kept are under this SPS.
abbrev pub AreUnder : Option (List Item) → Option MadeSets → Type 0
AreUnder sps None = Unit {0}
AreUnder sps (Some m) = sps ≡ Some m.sets.sps

-- This is the SPS of the last whole picture, if that is known of the picture that was begun last.
abbrev pub KnowsSps : State → Option (List Item) → Type 0
KnowsSps s sps = s.unchanged ≡ true → last_held s ≡ sps

-- A picture header, with the lists that its items determine, and ids that exist.
pub record IsHeader (b : BegunPicture) : Type 0 where
  pub sets : AreMade b.sets
  pub header : b.header ≡ picture_header_of (begun_of b None)
  pub read : picture.IsHeader (structures b.sets.sps) (in_force b.sets.sps b.sets.pps) b.header
  pub small : NamesSmall b.header.fields

-- A slice of that picture, which is in these bytes, if these adaptation parameter sets are in force.
pub record IsSlot (b : BegunPicture) (bytes : List ℕ) (sets : List (Option Aps)) (slot : SliceSlot) : Type 0 where
  pub placed : IsPlaced bytes slot
  pub subpic : slot.header.subpic < length b.sets.layout.subpics
  pub bodies : AreThere sets (aps_named_by b.sets.pps b.header.fields slot.header)
  pub qp : is_qp b.sets.sps (slice_qp b.sets.pps b.header.fields (read_of slot.header)) ≡ true
  pub header : slot.header ≡ slice_header_of (begun_of b None) (slice_of bytes slot).header

-- The header, and the slices under it.
abbrev pub AreSlots : Option BegunPicture → List ℕ → List (Option Aps) → List SliceSlot → Type 0
AreSlots None bytes bodies slots = Unit {0}
AreSlots (Some b) bytes bodies slots = IsHeader b × AllByRecursion (IsSlot b bytes bodies) slots

-- The slices were read under the header, as those of a picture of this kind.
abbrev pub AreRead : Stage → List SliceSlot → Type 0
AreRead stages.Nothing slots = Unit {0}
AreRead (stages.Headed b) slots = Unit {0}
AreRead (stages.Going g) slots = AllByRecursion (λ s. IsReadAt (at_begun g.kind.nal_type g.begun) s.header) slots

-- The kind of a picture whose first slice was taken: its type and its TemporalId are those of a NAL unit.
abbrev pub IsOfUnit : Option Kind → Type 0
IsOfUnit None = Unit {0}
IsOfUnit (Some k) = (k.nal_type < 32) × (k.temporal_id < 7)

-- Each type has eight places, and those of LMCS from the fifth on are never filled: it has no more ids.
pub record AreBodies (sets : List (Option Aps)) : Type 0 where
  pub places : length sets ≡ 24
  pub lmcs : (i : ℕ) → 12 ≤ i → i < 16 → slice_index_or sets i None ≡ None

-- The picture lies in order.
pub record IsOrdered (c : CurrentPicture) : Type 0 where
  pub kind : IsOfUnit (kind_at c.stage)
  pub bytes : length c.bytes ≤ picture_limit
  pub header : c.header_end ≤ length c.bytes
  pub slots : AreSlots (header_at c.stage) c.bytes c.bodies c.slices
  pub read : AreRead c.stage c.slices
  pub messages : spelled_length c.messages ≤ message_limit
  pub bodies : AreBodies c.bodies

pub record IsInOrder (s : State) : Type 0 where
  pub sps : length s.sps ≡ 16
  pub pps : length s.pps ≡ 64
  pub aps : AreBodies s.aps
  pub made : AreKept s.sps s.pps s.made
  pub under : AreUnder (begun_sps s.picture.stage) s.made
  pub known : KnowsSps s (begun_sps s.picture.stage)
  pub picture : IsOrdered s.picture
  pub spelled : s.gathered_len ≡ spelled_length s.gathered
  pub gathered : s.gathered_len ≤ message_limit

-- All slices of a picture were taken.
abbrev pub AreAll : Stage → List SliceSlot → Type 0
AreAll stages.Nothing slots = ⊥
AreAll (stages.Headed b) slots = ⊥
AreAll (stages.Going g) slots = (0 < length slots) × (length slots ≡ length g.begun.sets.layout.slices)

pub record IsComplete (c : CurrentPicture) : Type 0 where
  pub slices : AreAll c.stage c.slices

-- The result for the last unit is true.
pub record IsKept (s : State) (told : Accepted) : Type 0 where
  pub order : IsInOrder s
  pub done : told ≡ accepted.PictureDone → IsComplete s.picture
