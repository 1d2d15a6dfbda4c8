-- Bytes that need no emulation prevention are their own escaped form.
use Rattle.std.proofs.Common.{◌≡◌, ℕ, zero, suc, ◌+◌, ◌-◌, ◌<◌, ◌≤◌, ◌==◌, ◌&&◌, Bool, true, false, not, List, [], ◌∷◌, length, refl, ap, sym, ◌∙◌, inl, inr, arith}
use Rattle.std.specs.Prelude.{nat_le}
use Rattle.std.specs.List.{AllByRecursion}
use Rattle.std.proofs.lemmas.Bool.{and_parts, cases_Bool, eq-eqb, eqb-true, true≢false}
use Rattle.std.proofs.lemmas.List.{take_all}
use Rattle.vx_bits.specs.Codes.{EndsInNoZero}
use Rattle.vx_annexb.specs.Emulation.{BreaksRule, IsEscaped, is_emulation, unescaped, unescaped_to}
use Rattle.vx_annexb.specs.Places.{IsMark}
use Rattle.vx_annexb.proofs.EmulationBytes.{emulation_mark, unescaped_run}

-- 00 00 and a byte of at most 03
abbrev pub is_mark : ℕ → ℕ → ℕ → Bool
is_mark a b c = (a == 0) && ((b == 0) && nat_le c 3)

abbrev pub begins : ℕ → List ℕ → Bool
begins a [] = false
begins a (b ∷ []) = false
begins a (b ∷ c ∷ more) = is_mark a b c

abbrev pub is_clear : List ℕ → Bool
is_clear [] = true
is_clear (a ∷ more) = not (begins a more) && is_clear more

marks : (a b c : ℕ) → not (is_mark a b c) ≡ true → a ≡ 0 → b ≡ 0 → c ≤ 3 → ⊥
marks (suc a) b c h first second third = absurd (omega (arith, first))
marks zero (suc b) c h first second third = absurd (omega (arith, second))
marks zero zero zero h first second third = absurd (true≢false (sym h))
marks zero zero (suc zero) h first second third = absurd (true≢false (sym h))
marks zero zero (suc (suc zero)) h first second third = absurd (true≢false (sym h))
marks zero zero (suc (suc (suc zero))) h first second third = absurd (true≢false (sym h))
marks zero zero (suc (suc (suc (suc c)))) h first second third = absurd (omega (arith, third))

no_mark : (n : List ℕ) → is_clear n ≡ true → (k : ℕ) → IsMark 3 n k → ⊥
no_mark [] clear k mark = let within = mark.within in absurd (omega (arith, within))
no_mark (a ∷ []) clear k mark = let within = mark.within in absurd (omega (arith, within))
no_mark (a ∷ b ∷ []) clear k mark = let within = mark.within in absurd (omega (arith, within))
no_mark (a ∷ b ∷ c ∷ more) clear zero mark =
    marks a b c (and_parts (not (is_mark a b c)) (is_clear (b ∷ c ∷ more)) clear).0 mark.first mark.second mark.third
no_mark (a ∷ b ∷ c ∷ more) clear (suc k) mark =
    let one : suc k + 1 ≡ suc (k + 1) = omega arith in
    let two : suc k + 2 ≡ suc (k + 2) = omega arith in
    let within = mark.within in
    no_mark (b ∷ c ∷ more) (and_parts (not (is_mark a b c)) (is_clear (b ∷ c ∷ more)) clear).1 k
    (record { within = omega (arith, within); first = mark.first; second = rw one at mark.second; third = rw two at mark.third })

none_emulates : (n : List ℕ) → is_clear n ≡ true → (k : ℕ) → is_emulation n k ≡ false
none_emulates n clear k = elim (cases_Bool (is_emulation n k)) [
  | inl on ↦ absurd (no_mark n clear (k - 2) (emulation_mark n k on))
  | inr off ↦ off
]

rules : (n : List ℕ) → is_clear n ≡ true → (k : ℕ) → BreaksRule n k → ⊥
rules n clear k (inl mark) =
    let low = mark.1.third in
    no_mark n clear (k - 2) (record { within = mark.1.within; first = mark.1.first; second = mark.1.second; third = omega (arith, low) })
rules n clear k (inr more) = absurd (true≢false (sym more.2 ∙ none_emulates n clear (k - 1)))

pub itself : (n : List ℕ) → is_clear n ≡ true → unescaped n ≡ n
itself n clear =
    let size : 0 + length n ≡ length n = omega arith in
    ap (unescaped_to n) (sym size) ∙ unescaped_run n 0 (length n) (omega arith) (λ k from to. none_emulates n clear k) ∙ take_all (length n) n (omega arith)

pub escaped_itself : (n : List ℕ) → is_clear n ≡ true → EndsInNoZero n → IsEscaped n n
escaped_itself n clear last = record { rules = rules n clear; last = last; is = sym (itself n clear) }

nonzero : (a : ℕ) → 0 < a → (a == 0) ≡ false
nonzero a some = elim (cases_Bool (a == 0)) [
  | inl on ↦ let none = eqb-true a 0 on in absurd (omega (arith, none, some))
  | inr off ↦ off
]

-- bytes none of which is 00
pub nonzero_clear : (n : List ℕ) → AllByRecursion (λ b. 0 < b) n → is_clear n ≡ true
nonzero_clear [] all = refl
nonzero_clear (a ∷ []) all = refl
nonzero_clear (a ∷ b ∷ []) all = refl
nonzero_clear (a ∷ b ∷ c ∷ more) all = let e = nonzero a all.0 in rw e (nonzero_clear (b ∷ c ∷ more) all.1)

-- ---- bytes that don't end in 00

abbrev pub ends_nonzero : List ℕ → Bool
ends_nonzero [] = false
ends_nonzero (a ∷ []) = not (a == 0)
ends_nonzero (a ∷ b ∷ more) = ends_nonzero (b ∷ more)

pub last_nonzero : (n : List ℕ) → ends_nonzero n ≡ true → EndsInNoZero n
last_nonzero [] ends k size none = absurd (omega (arith, size))
last_nonzero (a ∷ []) ends zero size none = let off = eq-eqb a 0 none in absurd (true≢false (sym ends ∙ ap not off))
last_nonzero (a ∷ []) ends (suc k) size none = absurd (omega (arith, size))
last_nonzero (a ∷ b ∷ more) ends zero size none = absurd (omega (arith, size))
last_nonzero (a ∷ b ∷ more) ends (suc k) size none = last_nonzero (b ∷ more) ends k (omega (arith, size)) none
