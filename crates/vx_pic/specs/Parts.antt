-- How callers see a picture, and which picture of a stream that is. Our own. Contracts of `Picture` and all that use it rely on it.
use Rattle.std.specs.Prelude.{◌≡◌, ℕ, ℤ, ◌+◌, ◌-◌, ◌*◌, ◌<◌, ◌≤◌, ◌==◌, ◌&&◌, nat_lt, true, false, cond, List, ◌++◌, length, map, take}
use Rattle.std.specs.Prelude.{Option, Some, None, is_none}
use Rattle.std.specs.List.{AllByRecursion, range_with_len, slice_index_or, slice_range}
use Rattle.vx_bits.specs.declared.list.Item.{Item}
use Rattle.vx_table.specs.Scope.{is_set}
use Rattle.vx_table.specs.Loaded.{number}
use Rattle.vx_fields.specs.declared.sh.TheConstants.{sh_picture_header_in_slice_header_flag}
use Rattle.vx_layout.specs.declared.numbers.Numbers.{Numbers}
use Rattle.vx_aps.specs.declared.aps.Aps.{Aps}
use Rattle.vx_aps.specs.declared.aps.TheConstants.{ALF, LMCS, SCALING}
use Rattle.vx_sei.specs.declared.message.Message.{Message}
use Rattle.vx_rpl.specs.HeaderLists.{lists_of}
use Rattle.vx_ph.specs.declared.header.PictureHeader.{PictureHeader}
use Rattle.vx_ph.specs.InForce.{in_force, structures}
use Rattle.vx_ph.specs.Picture.{IsHeader}
use Rattle.vx_sh.specs.Value.{AreFields, HasNumbers}
use Rattle.vx_sh.specs.Whole.{At}
use Rattle.vx_sh.specs.declared.header.SliceHeader.{SliceHeader as SliceValue}
use Rattle.vx_pic.specs.declared.kind.Kind.{Kind}
use Rattle.vx_pic.specs.declared.picture.PictureParts.{PictureParts}
use Rattle.vx_pic.specs.declared.picture.SliceSlot.{SliceSlot}
use Rattle.vx_pic.specs.declared.picture.SliceView.{SliceView}
use Rattle.vx_pic.specs.Sets.{SliceHeader, Slot, same_size, address_of, names_of, slice_qp, is_qp}
use Rattle.vx_pic.specs.Readings.{Reading, Begun, Slice, Picture, stored_aps, messages_of}
use Rattle.vx_pic.specs.PictureLayout.{ids_of, numbers_in, MakeLayout}
use Rattle.vx_pic.specs.UnderSets.{picture_header_of}
use Rattle.vx_sh.specs.InForce.{at_sets}

-- ---- adaptation parameter sets

-- The greatest number of ids of a type: 0 to 7 (7.4.3.6).
abbrev pub id_count : ℕ
id_count = 8

-- Their place in a list of those of all types, each type's by id.
abbrev pub slot_of : ℕ → ℕ → ℕ
slot_of kind id = id_count * kind + id

-- The one of a type and an id.
abbrev pub aps_at : List (Option Aps) → ℕ → ℕ → Option Aps
aps_at sets kind id = cond (nat_lt kind (SCALING + 1) && nat_lt id id_count) (slice_index_or sets (slot_of kind id) None) None

-- Those in force after these readings, by their types and ids.
abbrev pub stored_of : ℕ → List Reading → List (Option Aps)
stored_of kind before = map (λ id. stored_aps kind id before) (range_with_len 0 id_count)

abbrev pub stored_sets : List Reading → List (Option Aps)
stored_sets before = stored_of ALF before ++ (stored_of LMCS before ++ stored_of SCALING before)

-- ---- the model

-- A slice: its unit, its header, and the place in the unit at which slice_data( ) begins.
pub record SlicePart : Type 0 where
  pub unit : List ℕ
  pub header : SliceValue
  pub payload : ℕ

-- A picture: its kind, the items of its sets, its layout, its header, the ids of its subpictures, the PH unit if it has one, and
-- its slices in order. Then its adaptation parameter sets (those of type 0 by their ids, then those of types 1 and 2), and its
-- messages.
pub record Parts : Type 0 where
  pub kind : Kind
  pub sps : List Item
  pub pps : List Item
  pub layout : Numbers
  pub header : PictureHeader
  pub ids : List ℕ
  pub unit : Option (List ℕ)
  pub slices : List SlicePart
  pub bodies : List (Option Aps)
  pub messages : List Message

-- A slice that is kept by its places in the picture's bytes.
abbrev pub slice_in : List ℕ → SliceSlot → SlicePart
slice_in bytes s = record { unit = slice_range bytes s.start s.end; header = s.header; payload = s.payload - s.start }

-- One that is lent.
abbrev pub part_of : SliceView → SlicePart
part_of v = record { unit = v.unit.now; header = v.header.now; payload = length v.unit.now - length v.payload.now }

-- The PH unit, which comes first; none if the header is inside the slice.
abbrev pub header_unit_in : List ℕ → ℕ → Option (List ℕ)
header_unit_in bytes end = cond (end == 0) None (Some (take end bytes))

abbrev pub seen : PictureParts → Parts
seen p = record {
  kind = p.kind;
  sps = p.sps.now;
  pps = p.pps.now;
  layout = p.layout.now;
  header = p.header.now;
  ids = p.ids.now;
  unit = header_unit_in p.bytes.now p.header_end;
  slices = map (slice_in p.bytes.now) p.slices.now;
  bodies = p.bodies.now;
  messages = p.messages.now;
}

-- ---- its requirements

-- Its places are in the bytes, in order, and the payload isn't empty.
pub record IsPlaced (bytes : List ℕ) (s : SliceSlot) : Type 0 where
  pub start : s.start ≤ s.payload
  pub payload : s.payload < s.end
  pub end : s.end ≤ length bytes

-- What is read of a slice with this header, except for the place of its payload.
abbrev pub read_of : SliceValue → SliceHeader
read_of h = record { fields = h.fields; subpic = h.subpic; payload = 0 }

-- The adaptation parameter sets that it names, in a picture with this PPS and header.
abbrev pub aps_named_by : List Item → List Item → SliceValue → List Slot
aps_named_by pps header h = names_of pps header (read_of h)

-- Each of these is there.
abbrev pub AreThere : List (Option Aps) → List Slot → Type 0
AreThere sets slots = AllByRecursion (λ slot. is_none (aps_at sets slot.kind slot.id) ≡ false) slots

-- A slice header is one that is read here: it has such fields, and the numbers that these determine.
pub record IsReadAt (n : At) (h : SliceValue) : Type 0 where
  pub inside : List ℤ
  pub fields : AreFields n h.fields inside
  pub numbers : HasNumbers n h fields.end

-- Parts that make up a picture.
pub record MakePicture (p : PictureParts) : Type 0 where
  -- Its type and its TemporalId are those of a NAL unit (the first slice's).
  pub type : p.kind.nal_type < 32
  pub tid : p.kind.temporal_id < 7
  -- There is a slice, and all slices of the layout are present (a whole picture); their number is bounded.
  pub some : 0 < length p.slices.now
  pub whole : length p.slices.now ≡ length p.layout.now.slices
  pub few : length p.slices.now ≤ 1000
  -- The units are in the bytes, each slice with a payload (a slice that is read).
  pub header : p.header_end ≤ length p.bytes.now
  pub places : AllByRecursion (IsPlaced p.bytes.now) p.slices.now
  -- Both sets have the same size, and make up the layout and the ids, one for each subpicture (a header that is read).
  pub size : same_size p.sps.now p.pps.now ≡ true
  pub sets : MakeLayout p.sps.now p.pps.now
  pub layout : p.layout.now ≡ numbers_in p.sps.now p.pps.now
  pub ids : p.ids.now ≡ ids_of p.sps.now p.pps.now
  pub one_each : length p.ids.now ≡ length p.layout.now.subpics
  -- The picture header is one under both sets, and each slice header one under these and it (headers that are read).
  pub read : IsHeader (structures p.sps.now) (in_force p.sps.now p.pps.now) p.header.now
  pub slices_read : AllByRecursion
      (λ s. IsReadAt (at_sets p.kind.nal_type p.sps.now p.pps.now p.header.now p.ids.now p.layout.now) s.header) p.slices.now
  -- Each slice's subpicture is one of the layout's (a slice that is read).
  pub subpics : AllByRecursion (λ s. s.header.subpic < length p.layout.now.subpics) p.slices.now
  -- Each adaptation parameter set that a slice or the picture header names is there (a picture whose slices joined it).
  pub bodies : AllByRecursion (λ s. AreThere p.bodies.now (aps_named_by p.pps.now p.header.now.fields s.header)) p.slices.now
  -- Its QP is in range (a picture whose slices joined it).
  pub qps : AllByRecursion (λ s. is_qp p.sps.now (slice_qp p.pps.now p.header.now.fields (read_of s.header)) ≡ true) p.slices.now

-- ---- which picture it is

-- The header of a slice of a picture, with the lists that its items determine.
abbrev pub slice_header_of : Begun → SliceHeader → SliceValue
slice_header_of b h = record {
  inside = is_set (number h.fields sh_picture_header_in_slice_header_flag);
  fields = h.fields;
  subpic = h.subpic;
  address = address_of h;
  lists = lists_of (structures b.sps) (in_force b.sps b.pps) h.fields;
}

abbrev pub slice_part : Begun → Slice → SlicePart
slice_part b s = record { unit = s.unit; header = slice_header_of b s.header; payload = s.header.payload }

-- A picture of a stream, as its model.
abbrev pub parts_of : Picture → Parts
parts_of p = record {
  kind = p.kind;
  sps = p.begun.sps;
  pps = p.begun.pps;
  layout = p.begun.layout;
  header = picture_header_of p.begun;
  ids = ids_of p.begun.sps p.begun.pps;
  unit = p.begun.unit;
  slices = map (slice_part p.begun) p.slices;
  bodies = stored_sets p.before;
  messages = messages_of p;
}

-- These are its parts.
abbrev pub ShowsPicture : Parts → Picture → Type 0
ShowsPicture parts p = parts ≡ parts_of p
