-- Readers of sets and headers that return what their bytes spell (H.266 7.3), or the first refusal in them. All contracts on the
-- pictures of a source rely on it.
use Rattle.std.specs.Prelude.{◌≡◌, ℕ, ℤ, ◌+◌, ◌*◌, Bool, true, false, List, length, drop, Result, Ok, Err}
use Rattle.vx_annexb.specs.Places.{IsFirstFrom}
use Rattle.vx_bits.specs.declared.list.Item.{Item}
use Rattle.vx_bits.specs.declared.refusal.Refusal.{Refusal}
use Rattle.vx_bits.specs.Codes.{bits_of}
use Rattle.vx_bits.specs.Place.{Place}
use Rattle.vx_annexb.specs.Emulation.{unescaped_to}
use Rattle.vx_fields.specs.declared.ph.TheConstants.{ph_pic_parameter_set_id}
use Rattle.vx_table.specs.declared.rows.Cell.{Cell}
use Rattle.vx_table.specs.Forms.{Form}
use Rattle.vx_table.specs.Loaded.{number}
use Rattle.vx_table.specs.Reading.{at_front}
use Rattle.vx_table.specs.Spelling.{Spells, Reaches, IsRefusedField, items_along}
use Rattle.vx_ptl.specs.Structures.{vps}
use Rattle.vx_sps.specs.Structure.{sps_form}
use Rattle.vx_pps.specs.Pps.{pps_form}
use Rattle.vx_aps.specs.Aps as aps
use Rattle.vx_sei.specs.Sei.{Carries}
use Rattle.vx_rpl.specs.declared.entry.RplTable.{RplTable}
use Rattle.vx_ph.specs.Header.{header_form}
use Rattle.vx_ph.specs.Id.{pps_id_form}
use Rattle.vx_ph.specs.InForce.{in_force, structures}
use Rattle.vx_ph.specs.Picture.{unit_form}
use Rattle.vx_sh.specs.declared.header.SliceHeader.{SliceHeader as SliceValue}
use Rattle.vx_sh.specs.Value.{BeginsSlice}
use Rattle.vx_sh.specs.Whole.{slice_form}
use Rattle.vx_pic.specs.Units.{rbsp_of}
use Rattle.vx_pic.specs.Sets.{SliceHeader}
use Rattle.vx_pic.specs.Readings.{Begun}
use Rattle.vx_pic.specs.Rules.{Readers}
use Rattle.vx_pic.specs.PictureLayout.{IsLayoutAnswer}
use Rattle.vx_pic.specs.UnderSets.{at_slice_of}

-- ---- the answer to bits, from a place on (7.3)

-- They begin with the spelling of values of the form, and these are the items of the values (7.3),
pub record BeginsItems {A : Type 0} (form : Form A) (place : Place) (items : List Item) : Type 0 where
  pub values : List ℤ
  pub rest : List Bool
  pub spelled : Spells place.total form values place.left rest
  pub all : items ≡ items_along form values

-- or they spell values up to a field of it, and there the field is refused for this (7.3).
pub record IsRefusedAt {A : Type 0} (form : Form A) (place : Place) (r : Refusal) : Type 0 where
  pub values : List ℤ
  pub cell : Cell ℕ
  pub rest : List Bool
  pub reached : Reaches place.total form values place.left cell rest
  pub refused : IsRefusedField cell place.total rest r

abbrev pub AnswersAt : {A : Type 0} → Form A → Place → Result (List Item) Refusal → Type 0
AnswersAt form place (Ok items) = BeginsItems form place items
AnswersAt form place (Err r) = IsRefusedAt form place r

-- ---- picture headers (7.3.2.8)

-- The place where it begins: in a PH unit at the first bit, in a slice after sh_picture_header_in_slice_header_flag (7.3.2.7,
-- 7.3.7).
abbrev pub header_place : Bool → List ℕ → Place
header_place true rbsp = record { total = 8 * length rbsp; left = drop 1 (bits_of rbsp) }
header_place false rbsp = at_front rbsp

-- In a PH unit a trailing ends it (7.3.2.7).
abbrev pub form_in : Bool → RplTable → List ℕ → Form (List ℕ)
form_in true = header_form
form_in false = unit_form

-- ph_pic_parameter_set_id (7.3.2.8).
abbrev pub IsReferredPps : Bool → List ℕ → Result ℕ Refusal → Type 0
IsReferredPps inside rbsp (Ok id) =
    (items : List Item) × BeginsItems pps_id_form (header_place inside rbsp) items × (id ≡ number items ph_pic_parameter_set_id)
IsReferredPps inside rbsp (Err r) = IsRefusedAt pps_id_form (header_place inside rbsp) r

-- ---- slice headers (7.3.7)

-- The header with which the unit's RBSP begins, and the place in the unit after it and after the unit's two header bytes (7.3.7).
pub record IsSlice (nal_type : ℕ) (b : Begun) (unit : List ℕ) (h : SliceHeader) : Type 0 where
  pub value : SliceValue
  pub size : ℕ
  pub begins : BeginsSlice (at_slice_of nal_type b) (rbsp_of unit) value size
  pub fields : h.fields ≡ value.fields
  pub subpic : h.subpic ≡ value.subpic
  pub payload : IsFirstFrom (λ place. length (unescaped_to unit place) ≡ 2 + size) 0 h.payload

abbrev pub IsSliceAnswer : ℕ → Begun → List ℕ → Result SliceHeader Refusal → Type 0
IsSliceAnswer nal_type b unit (Ok h) = IsSlice nal_type b unit h
IsSliceAnswer nal_type b unit (Err r) = IsRefusedAt (slice_form (at_slice_of nal_type b)) (at_front (rbsp_of unit)) r

-- ---- all of them (7.3.2)

-- The readers of H.266 (7.3.2).
pub record AreOfH266 (R : Readers) : Type 0 where
  pub vps : (rbsp : List ℕ) → AnswersAt vps (at_front rbsp) (R.vps rbsp)
  pub sps : (rbsp : List ℕ) → AnswersAt sps_form (at_front rbsp) (R.sps rbsp)
  pub pps : (rbsp : List ℕ) → AnswersAt pps_form (at_front rbsp) (R.pps rbsp)
  pub aps : (rbsp : List ℕ) → aps.IsAnswer rbsp (R.aps rbsp)
  pub sei : (rbsp : List ℕ) → Carries rbsp (R.sei rbsp)
  pub layout : (s p : List Item) → IsLayoutAnswer s p (R.layout s p)
  pub referred_pps : (inside : Bool) (rbsp : List ℕ) → IsReferredPps inside rbsp (R.referred_pps inside rbsp)
  pub header : (inside : Bool) (s p : List Item) (rbsp : List ℕ)
      → AnswersAt (form_in inside (structures s) (in_force s p)) (header_place inside rbsp) (R.header inside s p rbsp)
  pub slice : (nal_type : ℕ) (b : Begun) (unit : List ℕ) → IsSliceAnswer nal_type b unit (R.slice nal_type b unit)
