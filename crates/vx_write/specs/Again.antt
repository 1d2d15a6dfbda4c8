-- What is written is read again: the units of sets and messages, and what is known of a picture that is written. Our own.
use Rattle.std.specs.List.{AllByRecursion}
use Rattle.std.specs.Prelude.{◌≡◌, ℕ, ◌+◌, ◌<◌, ◌≤◌, false, IsTrue, List, length, sum_by, All, Option, Some}
use Rattle.vx_bits.specs.Limits.{unit_limit}
use Rattle.vx_annexb.specs.Laws.{CanStand}
use Rattle.vx_aps.specs.declared.aps.Aps.{Aps}
use Rattle.vx_aps.specs.Aps.{IsValid}
use Rattle.vx_sei.specs.declared.message.Message.{Message}
use Rattle.vx_sei.specs.Sei.{is_carried, spelled_length}
use Rattle.vx_pic.specs.Units.{has_header_inside}
use Rattle.vx_pic.specs.Sets.{Slot, names_of, referred_sps, sps_id}
use Rattle.vx_pic.specs.Parts.{Parts, aps_at}
use Rattle.vx_pic.specs.Rules.{Readers, message_limit, picture_limit, unit_size}
use Rattle.vx_pic.specs.Written.{AreInOrder, HeadReads, Plan, Says, SeiReads, SeiUnit, Set, SetUnit, SliceReads, a_pps, an_aps, an_sps, eos_unit, planned_slices}
use Rattle.vx_pic.specs.Resident.{HasSet, HaveNamed, Sends}
use Rattle.vx_pic.specs.H266.{AreOfH266}
use Rattle.vx_write.specs.Units.{IsSeiUnit, IsSetUnit, IsUnitOf}

-- ---- units of sets and messages

-- A set that can be read again if its unit is written.
abbrev pub IsReadable : Set → Type 0
IsReadable (an_sps items) = Unit {0}
IsReadable (a_pps items) = Unit {0}
IsReadable (an_aps a) = IsValid a

-- The unit of a set is read as the set,
abbrev pub SetUnitsAreRead : Type 0
SetUnitsAreRead =
    (R : Readers) (tid : ℕ) (set : Set) (unit : List ℕ) → AreOfH266 R → tid < 7 → IsReadable set → IsSetUnit tid set unit
    → Says R unit set

-- and that of messages that are carried as these.
abbrev pub SeiUnitsAreRead : Type 0
SeiUnitsAreRead =
    (R : Readers) (tid : ℕ) (messages : List Message) (unit : Option SeiUnit) → AreOfH266 R → tid < 7
    → All (λ m. IsTrue (is_carried m.kind)) messages → spelled_length messages ≤ message_limit → IsSeiUnit tid messages unit
    → SeiReads R unit

-- A unit that is no longer than a unit may be can stand in a byte stream (Annex B),
abbrev pub UnitsStand : Type 0
UnitsStand =
    (nal_type tid : ℕ) (rbsp unit : List ℕ) → tid < 7 → IsUnitOf nal_type tid rbsp unit → length unit ≤ unit_limit → CanStand unit

-- and so can an end of sequence.
abbrev pub EndStands : Type 0
EndStands = CanStand eos_unit

-- ---- a picture that is written

-- The header of a plan, and its slices, are read as it says: under its sets, one of which refers to the other.
pub record UnitsAreRead (R : Readers) (p : Plan) : Type 0 where
  pub head : HeadReads R p.begun.unit p.begun p.first
  pub slices : AllByRecursion (SliceReads R p.begun p.kind.nal_type) (planned_slices p)
  pub outside : AllByRecursion (λ s. has_header_inside s.unit ≡ false) p.more
  pub refers : referred_sps p.begun.pps ≡ sps_id p.begun.sps
  pub tid : p.kind.temporal_id ≡ p.begun.temporal_id

-- Its slices are those of its layout, in order, and all units have no more bytes than a picture may have.
pub record IsWholePlan (p : Plan) : Type 0 where
  pub order : AreInOrder p.begun 0 (planned_slices p)
  pub all : length (planned_slices p) ≡ length p.begun.layout.slices
  pub size : unit_size p.begun.unit + sum_by (λ s. length s.unit) (planned_slices p) ≤ picture_limit

-- Of the sets that it needs, each of a type and an id of its own, among them its SPS and its PPS, those are sent that aren't resident.
pub record SendsItsSets (needed : List SetUnit) (done : List Plan) (p : Plan) : Type 0 where
  pub sends : Sends done p
  pub same : sends.needed ≡ needed
  pub sps : HasSet sends.needed (an_sps p.begun.sps)
  pub pps : HasSet sends.needed (a_pps p.begun.pps)

-- Each adaptation parameter set of a picture can be written, as its type and id have it.
abbrev pub HasReadableSets : Parts → Type 0
HasReadableSets q = (slot : Slot) (a : Aps) → aps_at q.bodies slot.kind slot.id ≡ Some a
    → IsValid (record { kind = slot.kind; id = slot.id; body = a.body })

-- The sets that are needed can be read again, and among them are all that the slices name.
pub record HasItsBodies (needed : List SetUnit) (p : Plan) : Type 0 where
  pub readable : AllByRecursion (λ x. IsReadable x.set) needed
  pub bodies : AllByRecursion (λ s. HaveNamed needed (names_of p.begun.pps p.begun.header s.header)) (planned_slices p)
