-- Units that are written can stand in a byte stream.
use Rattle.std.proofs.Common.{◌≡◌, ℕ, zero, suc, ◌+◌, ◌*◌, ◌/◌, ◌%◌, ◌≤◌, Bool, true, false, List, [], ◌∷◌, length, slice_index, refl, ap, sym, ◌∙◌, inl, inr, arith}
use Rattle.std.specs.List.{AllByRecursion}
use Rattle.std.proofs.lemmas.Bool.{true≢false}
use Rattle.vx_annexb.specs.Emulation.{BreaksRule, IsEscaped, unescaped_to}
use Rattle.vx_annexb.specs.Laws.{CanStand}
use Rattle.vx_pic.specs.Written.{eos_unit, eos_units}
use Rattle.vx_write.specs.Again.{EndStands, UnitsStand}
use Rattle.vx_write.proofs.UnitsRead.{front_of}

-- a unit has its header's two bytes
pub two_bytes : (first second : ℕ) (rbsp n : List ℕ) (size : ℕ) → length n ≡ size → IsEscaped (first ∷ second ∷ rbsp) n → 2 ≤ length n
two_bytes first second rbsp n zero none is =
    let nothing : first ∷ second ∷ rbsp ≡ [] = is.is ∙ ap (unescaped_to n) none in
    absurd (omega (arith, ap (λ xs. length xs) nothing))
two_bytes first second rbsp n (suc zero) one is =
    let single : first ∷ second ∷ rbsp ≡ slice_index n 0 ∷ [] = is.is ∙ ap (unescaped_to n) one in
    absurd (omega (arith, ap (λ xs. length xs) single))
two_bytes first second rbsp n (suc (suc more)) many is = omega (arith, many)

pub unit_stands : UnitsStand
unit_stands nal_type tid rbsp unit low is short =
    let front = front_of 0 (nal_type * 8 + (tid + 1)) rbsp unit is in
    record {
      last = is.last;
      sound = record {
        header = record {
          bytes = two_bytes 0 (nal_type * 8 + (tid + 1)) rbsp unit (length unit) refl is;
          forbidden = ap (λ b. b / 128) front.at_0;
          temporal = let at = ap (λ b. b % 8) front.at_1 in omega (arith, at, low);
        };
        emulation = is.rules;
        size = short;
      };
    }

eos_last : (k : ℕ) → 2 ≡ k + 1 → slice_index eos_unit k ≡ 0 → ⊥
eos_last zero at none = absurd (omega (arith, at))
eos_last (suc zero) at none = absurd (omega (arith, none))
eos_last (suc (suc k)) at none = absurd (omega (arith, at))

eos_rules : (k : ℕ) → BreaksRule eos_unit k → ⊥
eos_rules k (inl mark) =
    let within = mark.1.within in
    let from = mark.0 in
    absurd (omega (arith, within, from))
eos_rules zero (inr four) =
    let from = four.0 in
    absurd (omega (arith, from))
eos_rules (suc zero) (inr four) =
    let zeros = four.2 in
    absurd (true≢false (sym zeros))
eos_rules (suc (suc k)) (inr four) =
    let within = four.1 in
    absurd (omega (arith, within))

pub eos_stands : EndStands
eos_stands = record {
  last = eos_last;
  sound = record {
    header = record { bytes = omega arith; forbidden = refl; temporal = omega arith };
    emulation = eos_rules;
    size = omega arith;
  };
}

-- where a sequence ends
pub ended_stand : (ends : Bool) → AllByRecursion CanStand (eos_units ends)
ended_stand true = (eos_stands, tt)
ended_stand false = tt
