-- How long units are: at most twice their RBSP, and as long as any unit of the same RBSP.
use Rattle.std.proofs.Common.{◌≡◌, ℕ, zero, suc, ◌+◌, ◌-◌, ◌*◌, ◌≤◌, true, List, [], ◌∷◌, length, take, drop, slice_index, refl, ap, sym, subst, ◌∙◌, inl, inr, arith, length-drop}
use Rattle.std.proofs.lemmas.Bool.{cases_Bool}
use Rattle.std.proofs.lemmas.List.{length_push}
use Rattle.vx_bits.specs.Codes.{EndsInNoZero}
use Rattle.vx_annexb.specs.Emulation.{IsEscaped, is_emulation, unescaped, unescaped_to}
use Rattle.vx_annexb.specs.Laws.{EscapedIsUnique, EscapedSplits}
use Rattle.vx_annexb.proofs.EmulationBytes.{emulation_is}
use Rattle.vx_pic.specs.Units.{rbsp_of}
use Rattle.vx_write.proofs.UnitsRead.{front_stays}

-- ---- at most twice

-- Behind an emulation byte stands none.
no_two : (n : List ℕ) (k : ℕ) → is_emulation n k ≡ true → is_emulation n (suc k) ≡ true → ⊥
no_two n k one two =
    let first = emulation_is n k one in
    let second = emulation_is n (suc k) two in
    let at : k ≡ suc k - 1 = omega arith in
    let none = ap (λ j. slice_index n j) at ∙ second.second in
    omega (arith, first.three, none)

-- the bytes up to a place, with one to spare where no emulation byte stands there
record AreTwice (n : List ℕ) (k : ℕ) : Type 0 where
  all : k ≤ 2 * length (unescaped_to n k)
  spare : is_emulation n k ≡ true → k + 1 ≤ 2 * length (unescaped_to n k)

twice_to : (n : List ℕ) (k : ℕ) → AreTwice n k
twice_to n zero = record { all = omega arith; spare = λ on. let at = emulation_is n 0 on in omega (arith, at.two) }
twice_to n (suc k) =
    let before = twice_to n k in
    elim (cases_Bool (is_emulation n k)) [
      | inl on ↦
          let more = before.spare on in
          record { all = rw on (omega (arith, more)); spare = λ next. absurd (no_two n k on next) }
      | inr off ↦
          let more = before.all in
          let long = length_push (unescaped_to n k) (slice_index n k) in
          record { all = rw off (omega (arith, more, long)); spare = λ next. rw off (omega (arith, more, long)) }
    ]

pub twice_at_most : (r n : List ℕ) → IsEscaped r n → length n ≤ 2 * length r
twice_at_most r n is =
    let all = (twice_to n (length n)).all in
    let same = ap (λ xs. length xs) is.is in
    omega (arith, all, same)

-- ---- the same RBSP

-- behind the header of a unit stands its RBSP with emulation bytes
pub record HasBehind (n : List ℕ) : Type 0 where
  pub two : 2 ≤ length n
  pub last : 1 ≤ slice_index n 1
  pub escaped : IsEscaped (unescaped n) n

header_ends : (n : List ℕ) → 1 ≤ slice_index n 1 → EndsInNoZero (slice_index n 0 ∷ slice_index n 1 ∷ [])
header_ends n some zero at none = absurd (omega (arith, at))
header_ends n some (suc zero) at none = absurd (omega (arith, some, none))
header_ends n some (suc (suc k)) at none = absurd (omega (arith, at))

header_taken : (n : List ℕ) (size : ℕ) → length n ≡ size → 2 ≤ size → take 2 (unescaped n) ≡ slice_index n 0 ∷ slice_index n 1 ∷ []
header_taken n zero is two = absurd (omega (arith, two))
header_taken n (suc zero) is two = absurd (omega (arith, two))
header_taken n (suc (suc more)) is two =
    let stays = front_stays n more in
    ap (λ k. take 2 (unescaped_to n k)) is ∙ ap (λ xs. take 2 xs) stays.1

behind : EscapedSplits → (n : List ℕ) → HasBehind n → IsEscaped (rbsp_of n) (drop 2 n)
unfolding rbsp_of
behind splits n has =
    let ends = subst EndsInNoZero (sym (header_taken n (length n) refl has.two)) (header_ends n has.last) in
    (splits (unescaped n) n 2 2 has.escaped refl ends).1

pub as_long : EscapedSplits → EscapedIsUnique → (n m : List ℕ) → HasBehind n → HasBehind m → rbsp_of n ≡ rbsp_of m → length n ≡ length m
as_long splits unique n m here there same =
    let one = behind splits n here in
    let other = subst (λ r. IsEscaped r (drop 2 m)) (sym same) (behind splits m there) in
    let tails = ap (λ xs. length xs) (unique (rbsp_of n) (drop 2 n) (drop 2 m) one other) in
    let short = length-drop 2 n in
    let shorter = length-drop 2 m in
    omega (arith, tails, short, shorter, here.two, there.two)
