-- Laws on the readers of H.266: their answers are determined, and such readers exist.
use Rattle.std.specs.Prelude.{◌≡◌, ℕ, Bool, List}
use Rattle.vx_bits.specs.declared.list.Item.{Item}
use Rattle.vx_aps.specs.Aps as aps
use Rattle.vx_ph.specs.InForce.{in_force, structures}
use Rattle.vx_pps.specs.Pps.{pps_form}
use Rattle.vx_ptl.specs.Structures.{vps}
use Rattle.vx_sei.specs.Sei.{Carries}
use Rattle.vx_sps.specs.Structure.{sps_form}
use Rattle.vx_table.specs.Reading.{at_front}
use Rattle.vx_pic.specs.Readings.{Begun}
use Rattle.vx_pic.specs.Rules.{Readers}
use Rattle.vx_pic.specs.PictureLayout.{IsLayoutAnswer}
use Rattle.vx_pic.specs.H266.{AnswersAt, header_place, form_in, IsReferredPps, IsSliceAnswer, AreOfH266}

-- At most one answer.
abbrev pub AtMostOne : {A : Type 0} → (A → Type 0) → Type 0
AtMostOne {A} P = (x y : A) → P x → P y → x ≡ y

-- Bytes and sets have one answer at most.
pub record HaveOneAnswer : Type 0 where
  pub vps : (rbsp : List ℕ) → AtMostOne (AnswersAt vps (at_front rbsp))
  pub sps : (rbsp : List ℕ) → AtMostOne (AnswersAt sps_form (at_front rbsp))
  pub pps : (rbsp : List ℕ) → AtMostOne (AnswersAt pps_form (at_front rbsp))
  pub aps : (rbsp : List ℕ) → AtMostOne (aps.IsAnswer rbsp)
  pub sei : (rbsp : List ℕ) → AtMostOne (Carries rbsp)
  pub layout : (s p : List Item) → AtMostOne (IsLayoutAnswer s p)
  pub referred_pps : (inside : Bool) (rbsp : List ℕ) → AtMostOne (IsReferredPps inside rbsp)
  pub header : (inside : Bool) (s p : List Item) (rbsp : List ℕ)
      → AtMostOne (AnswersAt (form_in inside (structures s) (in_force s p)) (header_place inside rbsp))
  pub slice : (nal_type : ℕ) (b : Begun) (unit : List ℕ) → AtMostOne (IsSliceAnswer nal_type b unit)

-- There are readers of H.266.
abbrev pub ThereAreReaders : Type 0
ThereAreReaders = (R : Readers) × AreOfH266 R
