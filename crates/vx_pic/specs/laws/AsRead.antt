-- The readers of H.266 related to the contracts of readers, one of which may have run out of memory.
use Rattle.std.specs.Prelude.{◌≡◌, ◌↔◌, ℕ, Bool, List, [], Result, Ok, Err}
use Rattle.vx_bits.specs.declared.list.Item.{Item}
use Rattle.vx_bits.specs.declared.refusal.Refusal.{Refusal}
use Rattle.vx_bits.specs.declared.refusal.ReadError.TheVariants.{Refused}
use Rattle.vx_bits.specs.Place.{Place}
use Rattle.vx_fields.specs.declared.ph.TheConstants.{ph_pic_parameter_set_id}
use Rattle.vx_table.specs.Forms.{Form}
use Rattle.vx_table.specs.Loaded.{number}
use Rattle.vx_table.specs.Reading.{Reads, ReadsValue, as_read}
use Rattle.vx_ptl.specs.Structures.{vps}
use Rattle.vx_sps.specs.Structure.{sps_form}
use Rattle.vx_pps.specs.Pps.{pps_form}
use Rattle.vx_aps.specs.Aps as aps
use Rattle.vx_sei.specs.Sei.{Carries}
use Rattle.vx_ph.specs.Id.{pps_id_form}
use Rattle.vx_ph.specs.InForce.{in_force, structures}
use Rattle.vx_sh.specs.Value.{ReadsSlice}
use Rattle.vx_pic.specs.Units.{rbsp_of}
use Rattle.vx_pic.specs.Sets.{SliceHeader}
use Rattle.vx_pic.specs.Readings.{Begun}
use Rattle.vx_pic.specs.Rules.{Readers}
use Rattle.vx_pic.specs.PictureLayout.{IsLayoutAnswer}
use Rattle.vx_pic.specs.UnderSets.{at_slice_of}
use Rattle.vx_pic.specs.H266.{header_place, form_in, IsSlice, AreOfH266}

-- The items that a reader of a form returns from a place on, or its refusal.
abbrev pub AnswersAsRead : {A : Type 0} → Form A → Place → Result (List Item) Refusal → Type 0
AnswersAsRead form place (Ok items) = (new : Place) × Reads {B = Unit {0}} form place [] (Ok tt) new items
AnswersAsRead form place (Err r) = (new : Place) × (items : List Item) × Reads {B = Unit {0}} form place [] (Err (Refused r)) new items

abbrev pub IsPpsAsRead : Bool → List ℕ → Result ℕ Refusal → Type 0
IsPpsAsRead inside rbsp (Ok id) =
    (items : List Item) × AnswersAsRead pps_id_form (header_place inside rbsp) (Ok items) × (id ≡ number items ph_pic_parameter_set_id)
IsPpsAsRead inside rbsp (Err r) = AnswersAsRead pps_id_form (header_place inside rbsp) (Err r)

abbrev pub IsSliceAsRead : ℕ → Begun → List ℕ → Result SliceHeader Refusal → Type 0
IsSliceAsRead nal_type b unit (Ok h) = IsSlice nal_type b unit h
IsSliceAsRead nal_type b unit (Err r) = ReadsSlice (at_slice_of nal_type b) (rbsp_of unit) (Err (Refused r))

-- All answers are those that the contracts of readers allow, apart from lack of memory.
pub record AnswerAsReaders (R : Readers) : Type 0 where
  pub vps : (rbsp : List ℕ) → ReadsValue vps rbsp (as_read (R.vps rbsp))
  pub sps : (rbsp : List ℕ) → ReadsValue sps_form rbsp (as_read (R.sps rbsp))
  pub pps : (rbsp : List ℕ) → ReadsValue pps_form rbsp (as_read (R.pps rbsp))
  pub aps : (rbsp : List ℕ) → aps.IsAnswer rbsp (R.aps rbsp)
  pub sei : (rbsp : List ℕ) → Carries rbsp (R.sei rbsp)
  pub layout : (s p : List Item) → IsLayoutAnswer s p (R.layout s p)
  pub referred_pps : (inside : Bool) (rbsp : List ℕ) → IsPpsAsRead inside rbsp (R.referred_pps inside rbsp)
  pub header : (inside : Bool) (s p : List Item) (rbsp : List ℕ)
      → AnswersAsRead (form_in inside (structures s) (in_force s p)) (header_place inside rbsp) (R.header inside s p rbsp)
  pub slice : (nal_type : ℕ) (b : Begun) (unit : List ℕ) → IsSliceAsRead nal_type b unit (R.slice nal_type b unit)

-- These are exactly the readers of H.266.
abbrev pub ReadersAreAsProgramsRead : Type 0
ReadersAreAsProgramsRead = (R : Readers) → AreOfH266 R ↔ AnswerAsReaders R
