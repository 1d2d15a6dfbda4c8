-- The rules on a slice, in the steps in which they are tried.
use Rattle.std.specs.Prelude.{◌≡◌, ℕ, ℤ, ◌+◌, ◌<◌, ◌==◌, nat_le, nat_lt, not, true, cond, List, [], ◌∷◌, length, Option, None, is_none, Result, Ok, Err}
use Rattle.vx_bits.specs.declared.list.Item.{Item}
use Rattle.vx_bits.specs.declared.refusal.Refusal.{Refusal}
use Rattle.vx_bits.specs.declared.refusal.Refusal.TheVariants.{Limit}
use Rattle.vx_bits.specs.declared.rules.TheConstants as rules
use Rattle.vx_layout.specs.declared.numbers.Numbers.{Numbers}
use Rattle.vx_aps.specs.declared.aps.Aps.{Aps}
use Rattle.vx_pic.specs.Answers.{◌>>=◌, refuse_if}
use Rattle.vx_pic.specs.Sets.{SliceHeader, Slot, slices_before, names_of, slice_qp, is_qp}
use Rattle.vx_pic.specs.Readings.{Begun}
use Rattle.vx_pic.specs.Rules.{structure, missing, picture_limit}
use Rattle.vx_pic.specs.Parts.{IsReadAt, aps_at, slice_header_of, aps_named_by, read_of, AreThere}
use Rattle.vx_assemble.specs.declared.readers.ReadSlice.{ReadSlice}
use Rattle.vx_assemble.specs.declared.state.BegunPicture.{BegunPicture}
use Rattle.vx_assemble.specs.inner.Held.{begun_of}
use Rattle.vx_assemble.specs.inner.Takes.{at_begun, header_read_as}

-- A unit with this type and TemporalId is one of a picture with this header and type.
abbrev pub same_picture : ℕ → ℕ → ℕ → ℕ → Result (Unit {0}) Refusal
same_picture tid nal_type t u = do
  _ ← refuse_if (not (u == tid)) (structure rules.TEMPORAL_ID_DIFFERS)
  refuse_if (not (t == nal_type)) (structure rules.TYPES_DIFFER)

-- The first of these adaptation parameter sets that isn't there is missing.
abbrev pub all_there : List (Option Aps) → List Slot → Result (Unit {0}) Refusal
all_there sets [] = Ok tt
all_there sets (slot ∷ slots) =
    cond (is_none (aps_at sets slot.kind slot.id)) (Err (missing slot.kind slot.id)) (all_there sets slots)

-- The one at this place is the next one after this number.
abbrev pub next_slice : Numbers → ℕ → SliceHeader → Result (Unit {0}) Refusal
next_slice layout count h = refuse_if (not (slices_before layout h == count)) (structure rules.SLICE_MISSING)

-- What a slice with these items names, and its quantization parameter.
abbrev pub items_only : List Item → SliceHeader
items_only items = record { fields = items; subpic = 0; payload = 0 }

abbrev pub names_in : List Item → List Item → List Item → List Slot
names_in p header items = names_of p header (items_only items)

abbrev pub qp_in : List Item → List Item → List Item → ℤ
qp_in p header items = slice_qp p header (items_only items)

-- The quantization parameter is in its range.
abbrev pub qp_checked : List Item → ℤ → Result (Unit {0}) Refusal
qp_checked s qp = refuse_if (not (is_qp s qp)) (structure rules.QP_RANGE)

-- There is a payload, and the picture isn't too long, with this number of bytes before this unit.
abbrev pub in_limits : ℕ → ℕ → ℕ → Result (Unit {0}) Refusal
in_limits size more payload = do
  _ ← refuse_if (nat_le more payload) (structure rules.EMPTY_PAYLOAD)
  refuse_if (nat_lt picture_limit (size + more)) (Limit rules.LONG_PICTURE)

-- A slice that was read joins a picture with this number of slices and bytes, if these sets are in force.
abbrev pub checked : Begun → List (Option Aps) → ℕ → ℕ → ℕ → SliceHeader → Result (Unit {0}) Refusal
checked b sets count size more h = do
  _ ← next_slice b.layout count h
  _ ← all_there sets (names_in b.pps b.header h.fields)
  _ ← qp_checked b.sps (qp_in b.pps b.header h.fields)
  in_limits size more h.payload

-- What is known of a slice that has joined a picture of this type.
pub record IsJoined (b : BegunPicture) (t : ℕ) (sets : List (Option Aps)) (size : ℕ) (r : ReadSlice) : Type 0 where
  pub read : IsReadAt (at_begun t b) r.header
  pub subpic : r.header.subpic < length b.sets.layout.subpics
  pub header : r.header ≡ slice_header_of (begun_of b None) (header_read_as r)
  pub payload : r.payload < size
  pub bodies : AreThere sets (aps_named_by b.sets.pps b.header.fields r.header)
  pub qp : is_qp b.sets.sps (slice_qp b.sets.pps b.header.fields (read_of r.header)) ≡ true
