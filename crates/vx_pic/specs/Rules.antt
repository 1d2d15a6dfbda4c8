-- How a unit is read after those before it, rule by rule in the order in which they are tried, whatever sets and headers are read
-- as. The order is our own; each rule cites the clause that it restates, and the others are our own. All definitions of pictures
-- rely on it.
use Rattle.std.specs.Prelude.{ℕ, ◌+◌, ◌^◌, ◌==◌, ◌&&◌, not, nat_le, nat_lt, Bool, cond, List, [], ◌∷◌, ◌++◌, length, sum_by}
use Rattle.std.specs.Prelude.{Option, Some, None, is_none, ok_or, Result, Ok, Err}
use Rattle.vx_bits.specs.declared.list.Item.{Item}
use Rattle.vx_bits.specs.declared.refusal.Refusal.{Refusal}
use Rattle.vx_bits.specs.declared.refusal.Refusal.TheVariants.{Profile, Limit, Structure}
use Rattle.vx_bits.specs.declared.rules.TheConstants as rules
use Rattle.vx_annexb.specs.NalUnit.{nal_unit_type, nuh_layer_id}
use Rattle.vx_layout.specs.declared.numbers.Numbers.{Numbers}
use Rattle.vx_aps.specs.declared.aps.Aps.{Aps}
use Rattle.vx_sei.specs.declared.message.Message.{Message}
use Rattle.vx_sei.specs.Sei.{spelled_length}
use Rattle.vx_pic.specs.declared.kind.Kind.{Kind}
use Rattle.vx_pic.specs.declared.sets.TheConstants as sets
use Rattle.vx_pic.specs.Answers.{◌>>=◌, refuse_if}
use Rattle.vx_pic.specs.Units.{is_reserved, temporal_id, rbsp_of, has_header_inside, is_irap_or_gdr, Class, other_unit, vps_unit}
use Rattle.vx_pic.specs.Units.{sps_unit, pps_unit, prefix_aps, suffix_aps, header_unit, slice_unit, end_unit, sei_unit, class_of}
use Rattle.vx_pic.specs.Sets.{SliceHeader, Slot, referred_sps, same_size, slices_before, names_of, slice_qp, is_qp}
use Rattle.vx_pic.specs.Readings.{Begun, Slice, Reading, dropped, vps_read, sps_read, pps_read, aps_read, messages_read, header_read}
use Rattle.vx_pic.specs.Readings.{first_slice, next_slice, sequence_ended, stored_sps, stored_pps, stored_aps, is_ended, gathered}
use Rattle.vx_pic.specs.Readings.{Picture, is_whole, Current, nothing, headed, going, current, is_open, is_within_picture, pictures}
use Rattle.vx_pic.specs.Counts.{fits_count, begins_anew, kind_of, is_changed}

-- What RBSPs and units are read as: structures, or the first refusal in them.
pub record Readers : Type 0 where
  pub vps : List ℕ → Result (List Item) Refusal
  pub sps : List ℕ → Result (List Item) Refusal
  pub pps : List ℕ → Result (List Item) Refusal
  -- None: a type that isn't stored.
  pub aps : List ℕ → Result (Option Aps) Refusal
  -- The messages that are copied; none of what is no SEI RBSP.
  pub sei : List ℕ → List Message
  -- The layout that an SPS and a PPS determine, or the lowest fault (6.5.1).
  pub layout : List Item → List Item → Result Numbers Refusal
  -- ph_pic_parameter_set_id, and the picture header under its sets; in a slice, or in a PH unit with its end.
  pub referred_pps : Bool → List ℕ → Result ℕ Refusal
  pub header : Bool → List Item → List Item → List ℕ → Result (List Item) Refusal
  -- A slice's header, by the type of the picture's first slice, in a unit.
  pub slice : ℕ → Begun → List ℕ → Result SliceHeader Refusal

-- ---- refusals

abbrev pub structure : ℕ → Refusal
structure code = Structure code 0 0

-- A set that is missing (7.4.3.4 to 7.4.3.6).
abbrev pub missing : ℕ → ℕ → Refusal
missing kind id = Structure rules.SET_MISSING kind id

-- The first of these adaptation parameter sets that isn't stored is missing (7.4.3.6).
abbrev pub are_stored : List Reading → List Slot → Result (Unit {0}) Refusal
are_stored before [] = Ok tt
are_stored before (slot ∷ slots) =
    cond (is_none (stored_aps slot.kind slot.id before)) (Err (missing slot.kind slot.id)) (are_stored before slots)

-- ---- limits

-- The bytes of a picture: of its PH unit and its slices.
abbrev pub unit_size : Option (List ℕ) → ℕ
unit_size None = 0
unit_size (Some unit) = length unit

abbrev pub picture_size : Picture → ℕ
picture_size p = unit_size p.begun.unit + sum_by (λ s. length s.unit) p.slices

unfoldable pub picture_limit : ℕ
picture_limit = 2 ^ 25

-- The bytes of the messages gathered for a picture.
unfoldable pub message_limit : ℕ
message_limit = 65536

-- ---- pictures and slices

-- An adaptation parameter set that is stored, or dropped.
abbrev pub aps_reading : Option Aps → Reading
aps_reading (Some a) = aps_read a
aps_reading None = dropped

-- The kind of a picture, by its first slice.
abbrev pub kind_at : List Reading → Begun → List ℕ → Kind
kind_at before b u = kind_of (pictures before) (is_ended before) b (nal_unit_type u) (temporal_id u)

-- It begins anew with a picture that is neither an IRAP nor a GDR picture (7.4.2.4.2).
abbrev pub starts_elsewhere : List Reading → List ℕ → Bool
starts_elsewhere before u = begins_anew (pictures before) (is_ended before) && not (is_irap_or_gdr (nal_unit_type u))

-- A picture begins: where a coded layer video sequence may begin, with the SPS of that sequence, and a count of 32 bits (7.4.2.4.2,
-- 8.3.1).
abbrev pub opened_as : Bool → Bool → Kind → Result Kind Refusal
opened_as elsewhere changed k = do
  _ ← refuse_if elsewhere (structure rules.STARTS_ELSEWHERE)
  _ ← refuse_if (not k.clvss && changed) (structure rules.SPS_CHANGED)
  _ ← refuse_if (not (fits_count k.poc)) (structure rules.POC_RANGE)
  Ok k

abbrev pub opens : List Reading → Begun → List ℕ → Result Kind Refusal
opens before b u = opened_as (starts_elsewhere before u) (is_changed (pictures before) b.sps) (kind_at before b u)

-- Before its first slice.
abbrev pub opened : List Reading → Begun → Kind → Picture
opened before b k = record { begun = b; kind = k; before = before; slices = [] }

-- Messages for the next picture.
abbrev pub gathers : List Reading → List Message → Result Reading Refusal
gathers before messages = do
  _ ← refuse_if (nat_lt message_limit (spelled_length (gathered before ++ messages))) (Limit rules.LONG_MESSAGES)
  Ok (messages_read messages)

module _ (R : Readers) where
  -- A picture header, in a PH unit or, without one, inside a slice (7.4.2.4, 7.4.3.8).
  abbrev pub begins : List Reading → List ℕ → Option (List ℕ) → Result Begun Refusal
  begins before u unit = do
    id ← R.referred_pps (is_none unit) (rbsp_of u)
    pps ← ok_or (stored_pps id before) (missing sets.PPS id)
    sps ← ok_or (stored_sps (referred_sps pps) before) (missing sets.SPS (referred_sps pps))
    _ ← refuse_if (not (same_size sps pps)) (structure rules.SIZE_DIFFERS)
    layout ← R.layout sps pps
    header ← R.header (is_none unit) sps pps (rbsp_of u)
    Ok (record { sps = sps; pps = pps; layout = layout; header = header; temporal_id = temporal_id u; unit = unit })

  -- A slice of a picture, after its other slices (7.4.2.2, 7.4.8).
  abbrev pub joins : Picture → List ℕ → Result Slice Refusal
  joins p u = do
    _ ← refuse_if (not (temporal_id u == p.begun.temporal_id)) (structure rules.TEMPORAL_ID_DIFFERS)
    _ ← refuse_if (not (nal_unit_type u == p.kind.nal_type)) (structure rules.TYPES_DIFFER)
    header ← R.slice p.kind.nal_type p.begun u
    _ ← refuse_if (not (slices_before p.begun.layout header == length p.slices)) (structure rules.SLICE_MISSING)
    _ ← are_stored p.before (names_of p.begun.pps p.begun.header header)
    _ ← refuse_if (not (is_qp p.begun.sps (slice_qp p.begun.pps p.begun.header header))) (structure rules.QP_RANGE)
    _ ← refuse_if (nat_le (length u) header.payload) (structure rules.EMPTY_PAYLOAD)
    _ ← refuse_if (nat_lt picture_limit (picture_size p + length u)) (Limit rules.LONG_PICTURE)
    Ok (record { unit = u; header = header })

  -- The first slice, and a further one (7.4.2.4).
  abbrev pub first : List Reading → Begun → List ℕ → Result Reading Refusal
  first before b u = do
    k ← opens before b u
    s ← joins (opened before b k) u
    Ok (first_slice b k s)

  abbrev pub further : Picture → List ℕ → Result Reading Refusal
  further p u = do
    s ← joins p u
    Ok (next_slice s)

  -- A slice whose picture header was read before it (7.4.2.4).
  abbrev pub follows : List Reading → Current → List ℕ → Result Reading Refusal
  follows before nothing u = Err (structure rules.SLICE_WITHOUT_HEADER)
  follows before (headed b) u = first before b u
  follows before (going p) u = do
    _ ← refuse_if (is_whole p) (structure rules.SLICE_WITHOUT_HEADER)
    further p u

  -- A slice with the picture header inside: it is the only one of its picture (sh_picture_header_in_slice_header_flag, 7.4.8).
  abbrev pub alone : List Reading → List ℕ → Result Reading Refusal
  alone before u = do
    _ ← refuse_if (is_open (current before)) (structure rules.SLICE_MISSING)
    b ← begins before u None
    _ ← refuse_if (nat_lt 1 (length b.layout.slices)) (structure rules.HEADER_INSIDE_OF_SEVERAL)
    first before b u

  -- A unit, by its type (7.4.2.2).
  abbrev pub reads_as : Class → List Reading → List ℕ → Result Reading Refusal
  reads_as other_unit before u = Ok dropped
  reads_as vps_unit before u = do
    v ← R.vps (rbsp_of u)
    Ok (vps_read v)
  reads_as sps_unit before u = do
    _ ← refuse_if (is_within_picture (current before)) (structure rules.SET_INSIDE_PICTURE)
    s ← R.sps (rbsp_of u)
    Ok (sps_read s)
  reads_as pps_unit before u = do
    _ ← refuse_if (is_within_picture (current before)) (structure rules.SET_INSIDE_PICTURE)
    p ← R.pps (rbsp_of u)
    Ok (pps_read p)
  reads_as prefix_aps before u = do
    _ ← refuse_if (is_within_picture (current before)) (structure rules.SET_INSIDE_PICTURE)
    a ← R.aps (rbsp_of u)
    Ok (aps_reading a)
  reads_as suffix_aps before u = do
    a ← R.aps (rbsp_of u)
    Ok (aps_reading a)
  reads_as header_unit before u = do
    _ ← refuse_if (is_open (current before)) (structure rules.SLICE_MISSING)
    b ← begins before u (Some u)
    Ok (header_read b)
  reads_as slice_unit before u = cond (has_header_inside u) (alone before u) (follows before (current before) u)
  reads_as end_unit before u = do
    _ ← refuse_if (is_open (current before)) (structure rules.SLICE_MISSING)
    Ok sequence_ended
  reads_as sei_unit before u = cond (is_within_picture (current before)) (Ok dropped) (gathers before (R.sei (rbsp_of u)))

  -- A unit: of the base layer, unless its reserved bit is 1 (7.4.2.2).
  abbrev pub reads : List Reading → List ℕ → Result Reading Refusal
  reads before u =
      cond (is_reserved u) (Ok dropped)
      (cond (not (nuh_layer_id u == 0)) (Err (Profile rules.SEVERAL_LAYERS)) (reads_as (class_of (nal_unit_type u)) before u))
