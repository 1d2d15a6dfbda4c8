-- The fields of a unit after those before it, in the order of the bits: all, or those before the first that is refused. The
-- structure is read wherever it comes: the rules on the order of units don't remove its fields. Our own. The contract of
-- `Assembler::unit_fields` relies on it.
use Rattle.std.specs.Prelude.{ℕ, ◌==◌, not, pos, Bool, true, false, cond, List, ◌∷◌, Option, Some, None, Result, Ok, Err}
use Rattle.vx_bits.specs.declared.list.Item.{Item}
use Rattle.vx_bits.specs.declared.refusal.Refusal.{Refusal}
use Rattle.vx_bits.specs.Place.{Place}
use Rattle.vx_fields.specs.declared.sh.TheConstants.{sh_picture_header_in_slice_header_flag}
use Rattle.vx_table.specs.Forms.{Form}
use Rattle.vx_table.specs.Reading.{at_front}
use Rattle.vx_table.specs.Spelling.{items_along}
use Rattle.vx_annexb.specs.NalUnit.{nal_unit_type, nuh_layer_id}
use Rattle.vx_aps.specs.Fields as aps
use Rattle.vx_ptl.specs.Structures.{vps}
use Rattle.vx_sps.specs.Structure.{sps_form}
use Rattle.vx_pps.specs.Pps.{pps_form}
use Rattle.vx_ph.specs.Id.{pps_id_form}
use Rattle.vx_ph.specs.InForce as in_sets
use Rattle.vx_sh.specs.Whole.{slice_form}
use Rattle.vx_sh.specs.Value.{values_of}
use Rattle.vx_pic.specs.declared.structure.Structure.TheVariants as structures
use Rattle.vx_pic.specs.declared.structure.StructureFields.{StructureFields}
use Rattle.vx_pic.specs.Shown.{no_fields, fields_of}
use Rattle.vx_pic.specs.Units.{is_reserved, rbsp_of, has_header_inside, Class, other_unit, vps_unit, sps_unit, pps_unit, prefix_aps}
use Rattle.vx_pic.specs.Units.{suffix_aps, header_unit, slice_unit, end_unit, sei_unit, class_of}
use Rattle.vx_pic.specs.Sets.{SliceHeader, referred_sps}
use Rattle.vx_pic.specs.UnderSets.{at_slice_of}
use Rattle.vx_pic.specs.Readings.{Begun, Reading, stored_sps, stored_pps, is_whole, Current, nothing, headed, going, current}
use Rattle.vx_pic.specs.Rules.{Readers, begins}
use Rattle.vx_pic.specs.H266.{AnswersAt, header_place, form_in, IsReferredPps, IsSliceAnswer, AreOfH266}

-- ---- the items of an answer: those of the value, or those before the refusal

abbrev pub items_at : {A : Type 0} (form : Form A) (place : Place) (answer : Result (List Item) Refusal) → AnswersAt form place answer → List Item
items_at form place (Ok items) answers = items
items_at form place (Err r) refused = items_along form refused.values

-- Up to ph_pic_parameter_set_id.
abbrev pub items_to_id : (inside : Bool) (rbsp : List ℕ) (answer : Result ℕ Refusal) → IsReferredPps inside rbsp answer → List Item
items_to_id inside rbsp (Ok id) refers = refers.0
items_to_id inside rbsp (Err r) refused = items_along pps_id_form refused.values

-- Of a slice header, with those of the picture header inside.
abbrev pub items_of_slice : (nal_type : ℕ) (b : Begun) (u : List ℕ) (answer : Result SliceHeader Refusal) → IsSliceAnswer nal_type b u answer
    → List Item
items_of_slice nal_type b u (Ok header) slice = items_along (slice_form (at_slice_of nal_type b)) (values_of slice.begins.fields)
items_of_slice nal_type b u (Err r) refused = items_along (slice_form (at_slice_of nal_type b)) refused.values

-- sh_picture_header_in_slice_header_flag, if the picture header is inside.
abbrev pub inside_item : Item
inside_item = record { field = sh_picture_header_in_slice_header_flag; value = pos 1 }

-- ---- of a unit

module _ (R : Readers) (h : AreOfH266 R) where
  abbrev pub vps_items : List ℕ → List Item
  vps_items rbsp = items_at vps (at_front rbsp) (R.vps rbsp) (h.vps rbsp)

  abbrev pub sps_items : List ℕ → List Item
  sps_items rbsp = items_at sps_form (at_front rbsp) (R.sps rbsp) (h.sps rbsp)

  abbrev pub pps_items : List ℕ → List Item
  pps_items rbsp = items_at pps_form (at_front rbsp) (R.pps rbsp) (h.pps rbsp)

  abbrev pub aps_fields : List ℕ → StructureFields
  aps_fields rbsp =
      let fields = aps.fields_in rbsp (R.aps rbsp) (h.aps rbsp) in
      record { structure = Some structures.Aps; items = fields.items; body = fields.body }

  -- Of a picture header under two sets.
  abbrev pub header_items : Bool → List ℕ → List Item → List Item → List Item
  header_items inside rbsp sps pps =
      items_at (form_in inside (in_sets.structures sps) (in_sets.in_force sps pps)) (header_place inside rbsp) (R.header inside sps pps rbsp)
      (h.header inside sps pps rbsp)

  abbrev pub id_items : Bool → List ℕ → List Item
  id_items inside rbsp = items_to_id inside rbsp (R.referred_pps inside rbsp) (h.referred_pps inside rbsp)

  -- For a header under those to which it refers; if one of them isn't stored, these items up to the id.
  abbrev pub under_sps : Bool → List ℕ → List Item → List Item → Option (List Item) → List Item
  under_sps inside rbsp to_id pps None = to_id
  under_sps inside rbsp to_id pps (Some sps) = header_items inside rbsp sps pps

  abbrev pub under_pps : Bool → List ℕ → List Item → List Reading → Option (List Item) → List Item
  under_pps inside rbsp to_id before None = to_id
  under_pps inside rbsp to_id before (Some pps) = under_sps inside rbsp to_id pps (stored_sps (referred_sps pps) before)

  abbrev pub under_id : Bool → List ℕ → List Item → List Reading → Result ℕ Refusal → List Item
  under_id inside rbsp to_id before (Ok id) = under_pps inside rbsp to_id before (stored_pps id before)
  under_id inside rbsp to_id before (Err r) = to_id

  abbrev pub picture_header_items : Bool → List ℕ → List Reading → List Item
  picture_header_items inside rbsp before = under_id inside rbsp (id_items inside rbsp) before (R.referred_pps inside rbsp)

  -- Of a slice, by the type of the first slice of the picture.
  abbrev pub slice_items : ℕ → Begun → List ℕ → List Item
  slice_items nal_type b u = items_of_slice nal_type b u (R.slice nal_type b u) (h.slice nal_type b u)

  -- For a slice with the picture header inside: under that, or no further than that extends.
  abbrev pub alone_items : List Reading → List ℕ → Result Begun Refusal → List Item
  alone_items before u (Ok b) = slice_items (nal_unit_type u) b u
  alone_items before u (Err r) = inside_item ∷ picture_header_items true (rbsp_of u) before

  -- For a slice whose picture header was taken before it; none without such a picture.
  abbrev pub following_fields : Current → List ℕ → StructureFields
  following_fields nothing u = no_fields
  following_fields (headed b) u = fields_of structures.SliceHeader (slice_items (nal_unit_type u) b u)
  following_fields (going p) u = cond (is_whole p) no_fields (fields_of structures.SliceHeader (slice_items p.kind.nal_type p.begun u))

  abbrev pub slice_fields : List Reading → List ℕ → StructureFields
  slice_fields before u =
      cond (has_header_inside u) (fields_of structures.SliceHeader (alone_items before u (begins R before u None)))
      (following_fields (current before) u)

  -- By its type.
  abbrev pub fields_as : Class → List Reading → List ℕ → StructureFields
  fields_as vps_unit before u = fields_of structures.Vps (vps_items (rbsp_of u))
  fields_as sps_unit before u = fields_of structures.Sps (sps_items (rbsp_of u))
  fields_as pps_unit before u = fields_of structures.Pps (pps_items (rbsp_of u))
  fields_as prefix_aps before u = aps_fields (rbsp_of u)
  fields_as suffix_aps before u = aps_fields (rbsp_of u)
  fields_as header_unit before u = fields_of structures.PictureHeader (picture_header_items false (rbsp_of u) before)
  fields_as slice_unit before u = slice_fields before u
  fields_as other_unit before u = no_fields
  fields_as end_unit before u = no_fields
  fields_as sei_unit before u = no_fields

  -- Of a unit of the base layer, unless its reserved bit is 1.
  abbrev pub unit_fields : List Reading → List ℕ → StructureFields
  unit_fields before u =
      cond (is_reserved u) no_fields (cond (not (nuh_layer_id u == 0)) no_fields (fields_as (class_of (nal_unit_type u)) before u))
