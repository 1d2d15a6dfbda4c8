-- Units that are written: a unit of a type is plain, and a slice is its header and then its payload.
use Rattle.std.proofs.Common.{◌≡◌, ℕ, zero, suc, ◌+◌, ◌*◌, ◌/◌, ◌%◌, ◌-◌, ◌<◌, ◌==◌, false, List, [], ◌∷◌, ◌++◌, length, drop, slice_index, refl, ap, sym, subst, ◌∙◌, arith}
use Rattle.vx_bits.specs.Codes.{EndsInNoZero}
use Rattle.vx_annexb.specs.Emulation.{unescaped, unescaped_to}
use Rattle.vx_annexb.specs.Laws.{UnescapedJoins}
use Rattle.vx_annexb.specs.NalUnit.{nal_unit_type}
use Rattle.vx_annexb.specs.Places.{IsFirstFrom}
use Rattle.vx_pic.specs.Units.{Class, class_of, is_reserved, rbsp_of, temporal_id}
use Rattle.vx_pic.specs.Written.{IsPlain}
use Rattle.vx_write.specs.Units.{IsUnitOf, header_bytes}
use Rattle.vx_write.proofs.Ending.{header_ends}
use Rattle.vx_write.proofs.UnitsRead.{HasFront, front_stays}

head_of : List ℕ → ℕ
head_of [] = 0
head_of (b ∷ bytes) = b

-- the header of a unit, and its RBSP, whatever follows it
front_by : (first second : ℕ) (rbsp n : List ℕ) (size : ℕ) → length n ≡ size → first ∷ second ∷ rbsp ≡ unescaped n
    → HasFront first second rbsp n
unfolding head_of rbsp_of
front_by first second rbsp n zero none is =
    let nothing : first ∷ second ∷ rbsp ≡ [] = is ∙ ap (unescaped_to n) none in
    absurd (omega (arith, ap (λ xs. length xs) nothing))
front_by first second rbsp n (suc zero) one is =
    let single : first ∷ second ∷ rbsp ≡ slice_index n 0 ∷ [] = is ∙ ap (unescaped_to n) one in
    absurd (omega (arith, ap (λ xs. length xs) single))
front_by first second rbsp n (suc (suc more)) many is =
    let stays = front_stays n more in
    let same : first ∷ second ∷ rbsp ≡ slice_index n 0 ∷ slice_index n 1 ∷ stays.0 = is ∙ ap (unescaped_to n) many ∙ stays.1 in
    record {
      at_0 = sym (ap head_of same);
      at_1 = sym (ap (λ xs. head_of (drop 1 xs)) same);
      behind = ap (λ xs. drop 2 xs) (sym is);
    }

-- A unit with the header of a type and a TemporalId.
pub record IsOf (nal_type tid : ℕ) (rbsp unit : List ℕ) : Type 0 where
  pub reserved : is_reserved unit ≡ false
  pub plain : (class : Class) → class_of nal_type ≡ class → IsPlain unit class
  pub type : nal_unit_type unit ≡ nal_type
  pub temporal : temporal_id unit ≡ tid
  pub behind : rbsp_of unit ≡ rbsp

pub is_of : (nal_type tid : ℕ) (rbsp unit : List ℕ) → tid < 7 → header_bytes nal_type tid ++ rbsp ≡ unescaped unit
    → IsOf nal_type tid rbsp unit
unfolding is_reserved
is_of nal_type tid rbsp unit low is =
    let front = front_by 0 (nal_type * 8 + (tid + 1)) rbsp unit (length unit) refl is in
    let type : nal_unit_type unit ≡ nal_type = ap (λ b. b / 8) front.at_1 ∙ omega (arith, low) in
    let reserved : is_reserved unit ≡ false = ap (λ b. b / 64 % 2 == 1) front.at_0 in
    record {
      reserved = reserved;
      plain = λ class is_class. record { reserved = reserved; layer = ap (λ b. b % 64) front.at_0; class = ap class_of type ∙ is_class };
      type = type;
      temporal = ap (λ b. b % 8 - 1) front.at_1 ∙ omega (arith, low);
      behind = front.behind;
    }

-- ---- a slice

-- a slice is written as its header, and its payload as it stands: its RBSP begins with the header, and the place behind it is the first
-- with so many bytes before it that are no emulation bytes
pub record IsSliceUnit (nal_type tid : ℕ) (bytes payload unit front : List ℕ) : Type 0 where
  pub is : IsOf nal_type tid (bytes ++ unescaped payload) unit
  pub place : IsFirstFrom (λ place. length (unescaped_to unit place) ≡ 2 + length bytes) 0 (length front)

pub slice_unit_is : UnescapedJoins → (nal_type tid : ℕ) (bytes payload unit front : List ℕ) → tid < 7 → EndsInNoZero bytes
    → IsUnitOf nal_type tid bytes front → unit ≡ front ++ payload
    → IsSliceUnit nal_type tid bytes payload unit front
slice_unit_is joins nal_type tid bytes payload unit front low last made whole =
    let c : ℕ = nal_type * 8 + (tid + 1) in
    let no_zero : EndsInNoZero (header_bytes nal_type tid ++ bytes) = header_ends 0 c bytes (omega arith) last in
    let both = joins (header_bytes nal_type tid ++ bytes) front payload no_zero made in
    let size : length (header_bytes nal_type tid ++ bytes) ≡ 2 + length bytes = omega arith in
    let P : ℕ → Type 0 = λ n. IsFirstFrom (λ place. length (unescaped_to (front ++ payload) place) ≡ n) 0 (length front) in
    let Q : List ℕ → Type 0 = λ u. IsFirstFrom (λ place. length (unescaped_to u place) ≡ 2 + length bytes) 0 (length front) in
    record {
      is = is_of nal_type tid (bytes ++ unescaped payload) unit low (sym both.0 ∙ ap unescaped (sym whole));
      place = subst Q (sym whole) (subst P size both.1);
    }
