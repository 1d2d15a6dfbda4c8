-- A picture as units that are written, and the requirements for reading them as that picture. Our own. Contracts of all writers of
-- streams rely on it.
use Rattle.std.specs.Prelude.{◌≡◌, ℕ, ◌+◌, ◌≤◌, ◌<◌, Bool, true, false, cond, List, [], ◌∷◌, ◌++◌, length, map, sum_by, option_to_list}
use Rattle.std.specs.Prelude.{Option, Some, None, is_none, Ok}
use Rattle.std.specs.List.{AllByRecursion}
use Rattle.vx_bits.specs.declared.list.Item.{Item}
use Rattle.vx_annexb.specs.NalUnit.{nal_unit_type, nuh_layer_id}
use Rattle.vx_aps.specs.declared.aps.Aps.{Aps}
use Rattle.vx_sei.specs.declared.message.Message.{Message}
use Rattle.vx_sei.specs.Sei.{spelled_length}
use Rattle.vx_pic.specs.declared.kind.Kind.{Kind}
use Rattle.vx_pic.specs.Units.{is_reserved, temporal_id, rbsp_of, has_header_inside, Class, sps_unit, pps_unit, prefix_aps, header_unit}
use Rattle.vx_pic.specs.Units.{slice_unit, sei_unit, class_of}
use Rattle.vx_pic.specs.Sets.{Slot, sps_id, pps_id, referred_sps, same_size, slices_before, names_of, slice_qp, is_qp}
use Rattle.vx_pic.specs.Readings.{Begun, Slice, Reading, sps_read, pps_read, aps_read, messages_read, header_read, first_slice}
use Rattle.vx_pic.specs.Readings.{next_slice, sequence_ended, stored_sps, stored_pps, stored_aps, is_ended, gathered, Picture}
use Rattle.vx_pic.specs.Readings.{messages_of, current, is_open, pictures}
use Rattle.vx_pic.specs.Rules.{Readers, unit_size, picture_limit, message_limit}
use Rattle.vx_pic.specs.Streams.{all_read, read_on}
use Rattle.vx_pic.specs.Alike.{IsNext}

-- ---- sets

-- A set that is written.
pub data Set : Type 0 where
  an_sps : List Item → Set
  a_pps : List Item → Set
  an_aps : Aps → Set

-- What its unit is read as.
abbrev pub set_reading : Set → Reading
set_reading (an_sps s) = sps_read s
set_reading (a_pps p) = pps_read p
set_reading (an_aps a) = aps_read a

-- It is in force: the last of its id.
abbrev pub IsStored : List Reading → Set → Type 0
IsStored before (an_sps s) = stored_sps (sps_id s) before ≡ Some s
IsStored before (a_pps p) = stored_pps (pps_id p) before ≡ Some p
IsStored before (an_aps a) = stored_aps a.kind a.id before ≡ Some a

-- A set, and the unit that it is written as.
pub record SetUnit : Type 0 where
  pub unit : List ℕ
  pub set : Set

-- Messages, and the SEI unit that they are written as.
pub record SeiUnit : Type 0 where
  pub unit : List ℕ
  pub messages : List Message

-- ---- plans

-- A picture that is written: the sets that are sent, the messages if it has any, its header with what is in force, its kind, and
-- its slices, at least one.
pub record Plan : Type 0 where
  pub sent : List SetUnit
  pub sei : Option SeiUnit
  pub begun : Begun
  pub kind : Kind
  pub first : Slice
  pub more : List Slice

abbrev pub planned_slices : Plan → List Slice
planned_slices p = p.first ∷ p.more

abbrev pub messages_sent : Option SeiUnit → List Message
messages_sent None = []
messages_sent (Some s) = s.messages

-- end_of_seq_rbsp( ) is empty (7.3.2.11): the unit is its header, of type EOS_NUT and TemporalId 0.
abbrev pub eos_unit : List ℕ
eos_unit = 0 ∷ 169 ∷ []

-- If one is marked (our own).
abbrev pub eos_units : Bool → List (List ℕ)
eos_units after_eos = cond after_eos (eos_unit ∷ []) []

-- That of the messages (our own).
abbrev pub sei_units : Option SeiUnit → List (List ℕ)
sei_units None = []
sei_units (Some s) = s.unit ∷ []

-- Its units: an end of sequence if one is marked, the sets, the messages, the PH unit if it has one, and the slices.
abbrev pub units_of : Plan → List (List ℕ)
units_of p =
    eos_units p.kind.after_eos
    ++ (map (λ x. x.unit) p.sent
    ++ (sei_units p.sei
    ++ (option_to_list p.begun.unit ++ map (λ s. s.unit) (planned_slices p))))

-- What these are read as.
abbrev pub eos_readings : Bool → List Reading
eos_readings after_eos = cond after_eos (sequence_ended ∷ []) []

abbrev pub set_readings : List SetUnit → List Reading
set_readings sent = map (λ x. set_reading x.set) sent

abbrev pub sei_readings : Option SeiUnit → List Reading
sei_readings None = []
sei_readings (Some s) = messages_read s.messages ∷ []

abbrev pub header_readings : Option (List ℕ) → Begun → List Reading
header_readings None b = []
header_readings (Some u) b = header_read b ∷ []

abbrev pub slice_readings : Plan → List Reading
slice_readings p = first_slice p.begun p.kind p.first ∷ map next_slice p.more

abbrev pub readings_of : Plan → List Reading
readings_of p =
    eos_readings p.kind.after_eos
    ++ (set_readings p.sent
    ++ (sei_readings p.sei
    ++ (header_readings p.begun.unit p.begun ++ slice_readings p)))

-- Readings after others; `before` has the latest first.
abbrev pub readings_after : List Reading → List Reading → List Reading
readings_after before [] = before
readings_after before (r ∷ readings) = readings_after (r ∷ before) readings

-- What comes before its header, and before its first slice.
abbrev pub before_header : List Reading → Plan → List Reading
before_header before p = readings_after (readings_after (readings_after before (eos_readings p.kind.after_eos)) (set_readings p.sent)) (sei_readings p.sei)

abbrev pub before_slices : List Reading → Plan → List Reading
before_slices before p = readings_after (before_header before p) (header_readings p.begun.unit p.begun)

-- The picture.
abbrev pub planned : List Reading → Plan → Picture
planned before p = record { begun = p.begun; kind = p.kind; before = before_slices before p; slices = planned_slices p }

-- ---- the requirements of a plan

-- A stream can go on here: no picture lacks a slice, and neither an end of sequence nor messages came since the last slice.
pub record Rests (before : List Reading) : Type 0 where
  pub closed : is_open (current before) ≡ false
  pub goes_on : is_ended before ≡ false
  pub none : gathered before ≡ []

-- A unit of this class, of the base layer.
pub record IsPlain (u : List ℕ) (c : Class) : Type 0 where
  pub reserved : is_reserved u ≡ false
  pub layer : nuh_layer_id u ≡ 0
  pub class : class_of (nal_unit_type u) ≡ c

-- The slices are in the picture's order, from this place on.
abbrev pub AreInOrder : Begun → ℕ → List Slice → Type 0
AreInOrder b n [] = Unit {0}
AreInOrder b n (s ∷ more) = (slices_before b.layout s.header ≡ n) × AreInOrder b (n + 1) more

-- Each of these sets is in force.
abbrev pub AreInForce : List Reading → List Slot → Type 0
AreInForce before slots = AllByRecursion (λ slot. is_none (stored_aps slot.kind slot.id before) ≡ false) slots

module _ (R : Readers) where
  -- The unit is read as the set.
  abbrev pub Says : List ℕ → Set → Type 0
  Says u (an_sps s) = IsPlain u sps_unit × (R.sps (rbsp_of u) ≡ Ok s)
  Says u (a_pps p) = IsPlain u pps_unit × (R.pps (rbsp_of u) ≡ Ok p)
  Says u (an_aps a) = IsPlain u prefix_aps × (R.aps (rbsp_of u) ≡ Ok (Some a))

  -- The header is read from the unit, in a slice or not, under its sets.
  pub record HeaderReads (inside : Bool) (u : List ℕ) (b : Begun) : Type 0 where
    pub referred : R.referred_pps inside (rbsp_of u) ≡ Ok (pps_id b.pps)
    pub size : same_size b.sps b.pps ≡ true
    pub layout : R.layout b.sps b.pps ≡ Ok b.layout
    pub header : R.header inside b.sps b.pps (rbsp_of u) ≡ Ok b.header
    pub tid : temporal_id u ≡ b.temporal_id

  -- From its PH unit, or from its only slice.
  abbrev pub HeadReads : Option (List ℕ) → Begun → Slice → Type 0
  HeadReads (Some u) b first = IsPlain u header_unit × HeaderReads false u b × (has_header_inside first.unit ≡ false)
  HeadReads None b first = HeaderReads true first.unit b × (has_header_inside first.unit ≡ true) × (length b.layout.slices ≤ 1)

  -- The slice is read under the header, in a picture of this type.
  pub record SliceReads (b : Begun) (t : ℕ) (s : Slice) : Type 0 where
    pub plain : IsPlain s.unit slice_unit
    pub tid : temporal_id s.unit ≡ b.temporal_id
    pub type : nal_unit_type s.unit ≡ t
    pub header : R.slice t b s.unit ≡ Ok s.header
    pub qp : is_qp b.sps (slice_qp b.pps b.header s.header) ≡ true
    pub payload : s.header.payload < length s.unit

  -- The messages are read from their unit.
  abbrev pub SeiReads : Option SeiUnit → Type 0
  SeiReads None = Unit {0}
  SeiReads (Some s) = IsPlain s.unit sei_unit × (R.sei (rbsp_of s.unit) ≡ s.messages) × (spelled_length s.messages ≤ message_limit)

  -- The units of a plan are read as the plan says, after these readings.
  pub record IsWritten (before : List Reading) (p : Plan) : Type 0 where
    pub sets : AllByRecursion (λ x. Says x.unit x.set) p.sent
    pub sei : SeiReads p.sei
    pub pps : stored_pps (pps_id p.begun.pps) (before_header before p) ≡ Some p.begun.pps
    pub sps : stored_sps (referred_sps p.begun.pps) (before_header before p) ≡ Some p.begun.sps
    pub head : HeadReads p.begun.unit p.begun p.first
    pub slices : AllByRecursion (SliceReads p.begun p.kind.nal_type) (planned_slices p)
    pub outside : AllByRecursion (λ s. has_header_inside s.unit ≡ false) p.more
    pub order : AreInOrder p.begun 0 (planned_slices p)
    pub bodies : AllByRecursion (λ s. AreInForce (before_header before p) (names_of p.begun.pps p.begun.header s.header)) (planned_slices p)
    pub all : length (planned_slices p) ≡ length p.begun.layout.slices
    pub size : unit_size p.begun.unit + sum_by (λ s. length s.unit) (planned_slices p) ≤ picture_limit
    pub tid : p.kind.temporal_id ≡ p.begun.temporal_id
    pub next : IsNext (pictures before) p.begun p.kind

  -- They are read so: the pictures are one more, the planned one, and it has the messages.
  pub record ReadsAgain (before : List Reading) (p : Plan) : Type 0 where
    pub read : read_on R before (units_of p) ≡ all_read (readings_after before (readings_of p))
    pub one_more : pictures (readings_after before (readings_of p)) ≡ planned before p ∷ pictures before
    pub messages : messages_of (planned before p) ≡ messages_sent p.sei
    pub rests : Rests (readings_after before (readings_of p))

  -- If a plan is written where a stream can go on, then it is read again.
  abbrev pub PlanReadsAgain : Type 0
  PlanReadsAgain = (before : List Reading) (p : Plan) → Rests before → IsWritten before p → ReadsAgain before p
