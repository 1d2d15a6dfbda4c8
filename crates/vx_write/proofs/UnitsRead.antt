-- The units of sets and messages that are written are read as these.
use Rattle.std.proofs.Common.{◌≡◌, ◌⊎◌, ℕ, zero, suc, ◌+◌, ◌*◌, ◌/◌, ◌%◌, ◌<◌, ◌≤◌, ◌==◌, IsTrue, List, [], ◌∷◌, ◌++◌, length, drop, slice_index, Option, Some, None, Result, Ok, Err, refl, ap, sym, subst, ◌∙◌, inl, inr, arith}
use Rattle.std.specs.Prelude.{All}
use Rattle.std.proofs.lemmas.Bool.{cases_Bool}
use Rattle.vx_bits.specs.declared.list.Item.{Item}
use Rattle.vx_bits.specs.declared.refusal.Refusal.{Refusal}
use Rattle.vx_bits.specs.declared.refusal.ReadError.TheVariants as errors
use Rattle.vx_annexb.specs.Emulation.{IsEscaped, is_emulation, unescaped_to}
use Rattle.vx_annexb.specs.NalUnit.{nal_unit_type}
use Rattle.vx_aps.specs.Aps.{spelled}
use Rattle.vx_aps.specs.laws.Answers.{SpelledIsAps}
use Rattle.vx_sei.specs.declared.message.Message.{Message}
use Rattle.vx_sei.specs.Sei.{IsSei, is_carried, spelled_length}
use Rattle.vx_sei.specs.laws.Messages as sei
use Rattle.vx_table.specs.Reading.{as_read}
use Rattle.vx_sps.specs.Set as sps_set
use Rattle.vx_pps.specs.laws.Sets as pps_set
use Rattle.vx_pic.specs.declared.unit_types.TheConstants as types
use Rattle.vx_pic.specs.Units.{Class, class_of, is_reserved, pps_unit, prefix_aps, rbsp_of, sei_unit, sps_unit}
use Rattle.vx_pic.specs.Rules.{Readers, message_limit}
use Rattle.vx_pic.specs.H266.{AreOfH266}
use Rattle.vx_pic.specs.H266Laws.{HaveOneAnswer}
use Rattle.vx_pic.specs.laws.AsRead.{AnswerAsReaders}
use Rattle.vx_pic.proofs.AsRead.{readers_are_as_programs_read}
use Rattle.vx_pic.specs.Written.{IsPlain, Says, SeiReads, SeiUnit, Set, a_pps, an_aps, an_sps}
use Rattle.vx_write.specs.Again.{IsReadable}
use Rattle.vx_write.specs.Units.{IsSeiUnit, IsSetUnit, IsUnitOf}

-- ---- the header of a unit

-- the first two bytes of a unit are no emulation bytes
pub front_stays : (n : List ℕ) (more : ℕ) → (tail : List ℕ) × (unescaped_to n (suc (suc more)) ≡ slice_index n 0 ∷ slice_index n 1 ∷ tail)
front_stays n zero = ([], refl)
front_stays n (suc more) =
    let before = front_stays n more in
    elim (cases_Bool (is_emulation n (suc (suc more)))) [
      | inl on ↦ (before.0, rw on before.1)
      | inr off ↦ (before.0 ++ slice_index n (suc (suc more)) ∷ [], rw off (ap (λ xs. xs ++ slice_index n (suc (suc more)) ∷ []) before.1))
    ]

head_of : List ℕ → ℕ
head_of [] = 0
head_of (b ∷ bytes) = b

-- the header of a unit, and its RBSP
pub record HasFront (first second : ℕ) (rbsp unit : List ℕ) : Type 0 where
  pub at_0 : slice_index unit 0 ≡ first
  pub at_1 : slice_index unit 1 ≡ second
  pub behind : rbsp_of unit ≡ rbsp

front_by_length : (first second : ℕ) (rbsp n : List ℕ) (size : ℕ) → length n ≡ size → IsEscaped (first ∷ second ∷ rbsp) n → HasFront first second rbsp n
unfolding head_of rbsp_of
front_by_length first second rbsp n zero none is =
    let nothing : first ∷ second ∷ rbsp ≡ [] = is.is ∙ ap (unescaped_to n) none in
    absurd (omega (arith, ap (λ xs. length xs) nothing))
front_by_length first second rbsp n (suc zero) one is =
    let single : first ∷ second ∷ rbsp ≡ slice_index n 0 ∷ [] = is.is ∙ ap (unescaped_to n) one in
    absurd (omega (arith, ap (λ xs. length xs) single))
front_by_length first second rbsp n (suc (suc more)) many is =
    let stays = front_stays n more in
    let same : first ∷ second ∷ rbsp ≡ slice_index n 0 ∷ slice_index n 1 ∷ stays.0 = is.is ∙ ap (unescaped_to n) many ∙ stays.1 in
    record {
      at_0 = sym (ap head_of same);
      at_1 = sym (ap (λ xs. head_of (drop 1 xs)) same);
      behind = ap (λ xs. drop 2 xs) (sym is.is);
    }

pub front_of : (first second : ℕ) (rbsp n : List ℕ) → IsEscaped (first ∷ second ∷ rbsp) n → HasFront first second rbsp n
front_of first second rbsp n is = front_by_length first second rbsp n (length n) refl is

-- a unit of a type is plain
plain : (nal_type tid : ℕ) (class : Class) (rbsp unit : List ℕ) → tid < 7 → class_of nal_type ≡ class → IsUnitOf nal_type tid rbsp unit → IsPlain unit class
unfolding is_reserved
plain nal_type tid class rbsp unit low is_class is =
    let front = front_of 0 (nal_type * 8 + (tid + 1)) rbsp unit is in
    let type : nal_unit_type unit ≡ nal_type = ap (λ b. b / 8) front.at_1 ∙ omega (arith, low) in
    record {
      reserved = ap (λ b. b / 64 % 2 == 1) front.at_0;
      layer = ap (λ b. b % 64) front.at_0;
      class = ap class_of type ∙ is_class;
    }

rbsp_is : (nal_type tid : ℕ) (rbsp unit : List ℕ) → IsUnitOf nal_type tid rbsp unit → rbsp_of unit ≡ rbsp
rbsp_is nal_type tid rbsp unit is = (front_of 0 (nal_type * 8 + (tid + 1)) rbsp unit is).behind

-- ---- answers

read_back : (x : Result (List Item) Refusal) (items : List Item) → (as_read x ≡ Ok items) ⊎ (as_read x ≡ Err errors.Memory) → x ≡ Ok items
read_back (Ok others) items (inl same) = let one : others ≡ items = cc in ap (λ (xs : List Item). let r : Result (List Item) Refusal = Ok xs in r) one
read_back (Ok others) items (inr same) = absurd (cc)
read_back (Err r) items (inl same) = absurd (cc)
read_back (Err r) items (inr same) = absurd (cc)

is_sps : class_of types.SPS_NUT ≡ sps_unit
unfolding class_of
is_sps = refl

is_pps : class_of types.PPS_NUT ≡ pps_unit
unfolding class_of
is_pps = refl

is_aps : class_of types.PREFIX_APS_NUT ≡ prefix_aps
unfolding class_of
is_aps = refl

is_sei : class_of types.PREFIX_SEI_NUT ≡ sei_unit
unfolding class_of
is_sei = refl

module _ (R : Readers) (of : AreOfH266 R) (tid : ℕ) (low : tid < 7) where
  answers : AnswerAsReaders R
  answers = (readers_are_as_programs_read R).0 of

  pub set_read : HaveOneAnswer → sps_set.WrittenIsRead → pps_set.WrittenIsRead → SpelledIsAps → (set : Set) (unit : List ℕ) → IsReadable set → IsSetUnit tid set unit → Says R unit set
  set_read unique sps_read pps_read aps_read (an_sps items) unit can (rbsp, spelling, is) =
      (plain types.SPS_NUT 0 sps_unit rbsp unit (omega arith) is_sps is, ap R.sps (rbsp_is types.SPS_NUT 0 rbsp unit is) ∙ read_back (R.sps rbsp) items (sps_read items rbsp (as_read (R.sps rbsp)) spelling (answers.sps rbsp)))
  set_read unique sps_read pps_read aps_read (a_pps items) unit can (rbsp, spelling, is) =
      (plain types.PPS_NUT tid pps_unit rbsp unit low is_pps is, ap R.pps (rbsp_is types.PPS_NUT tid rbsp unit is) ∙ read_back (R.pps rbsp) items (pps_read items rbsp (as_read (R.pps rbsp)) spelling (answers.pps rbsp)))
  set_read unique sps_read pps_read aps_read (an_aps a) unit can is =
      let rbsp : List ℕ = spelled a.kind a.id a.body in
      (plain types.PREFIX_APS_NUT tid prefix_aps rbsp unit low is_aps is, ap R.aps (rbsp_is types.PREFIX_APS_NUT tid rbsp unit is) ∙ unique.aps rbsp (R.aps rbsp) (Ok (Some a)) (of.aps rbsp) (aps_read a a can).0)

  pub sei_read : sei.WrittenIsRead → (messages : List Message) (unit : Option SeiUnit) → All (λ m. IsTrue (is_carried m.kind)) messages → spelled_length messages ≤ message_limit → IsSeiUnit tid messages unit → SeiReads R unit
  sei_read again [] unit all short is = subst (SeiReads R) (sym is) tt
  sei_read again (m ∷ more) None all short is = absurd is
  sei_read again (m ∷ more) (Some s) all short (same, (rbsp, are, is)) = (
    plain types.PREFIX_SEI_NUT tid sei_unit rbsp s.unit low is_sei is,
    again (rbsp_of s.unit) (m ∷ more) (R.sei (rbsp_of s.unit)) all (subst (λ xs. IsSei xs (m ∷ more)) (sym (rbsp_is types.PREFIX_SEI_NUT tid rbsp s.unit is)) are) (of.sei (rbsp_of s.unit)) ∙ sym same,
    subst (λ xs. spelled_length xs ≤ message_limit) (sym same) short,
  )
