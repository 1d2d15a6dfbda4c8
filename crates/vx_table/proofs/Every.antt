-- Whatever the bits, they begin with a field or it is refused.
use Rattle.std.proofs.Common.{◌≡◌, ◌≢◌, ◌⊎◌, inl, inr, ℕ, ℤ, pos, negsuc, zero, suc, ◌-◌, ◌^◌, ◌<◌, Bool, true, false, List, [], ◌∷◌, ◌++◌, length, take, drop, Option, Some, None, refl, ap, sym, ◌∙◌, arith}
use Rattle.std.proofs.lemmas.List.{append-nil, length-append, length-take-le, take-append-drop}
use Rattle.std.proofs.lemmas.Bool.Decides.{leb_tells}
use Rattle.vx_bits.specs.Codes.{number, fixed, exp_golomb, code_number, IsCodeNumber, zeros_from, one_from, BeginsWith}
use Rattle.vx_bits.proofs.Bits.{number-below, fixed_of}
use Rattle.vx_bits.proofs.Golomb.{three_ways}
use Rattle.vx_bits.specs.declared.refusal.BitCause.{BitCause}
use Rattle.vx_bits.specs.declared.refusal.BitCause.TheVariants as causes
use Rattle.vx_bits.specs.declared.refusal.Refusal.{Refusal}
use Rattle.vx_table.specs.declared.rows.Coding.{Coding}
use Rattle.vx_table.specs.declared.rows.Coding.TheVariants.{Fixed, Golomb, SignedGolomb, Zeros, OneAndZeros, Trailing, Absent, Refused}
use Rattle.vx_table.specs.declared.rows.Fault.{Fault}
use Rattle.vx_table.specs.declared.rows.Cell.{Cell}
use Rattle.vx_table.specs.Forms.{Form, done, field}
use Rattle.vx_table.specs.Spelling.{HasCode, code_of, MayEnd, BeginsCode, Misses, BeginsField, fault_of, Spells, at_end, behind, Reaches, here, later, IsRefusedField, missed, broken}
use Rattle.vx_table.specs.laws.Spelling.{AnswersAlways}

-- a code begins at the bits, or there is a cause why none does
abbrev CodeOrCause : Coding ℕ → ℕ → List Bool → Type 0
CodeOrCause coding total left = ((v : ℤ) × (rest : List Bool) × BeginsCode coding total v left rest) ⊎ ((cause : BitCause) × Misses coding (total - length left) left cause)

-- bits begin with others, or they don't
begins_or_not : (code left : List Bool) → BeginsWith left code ⊎ (¬ BeginsWith left code)
begins_or_not [] left = inl (left, refl)
begins_or_not (c ∷ code) [] = inr (λ (rest, e). cc)
begins_or_not (true ∷ code) (false ∷ left) = inr (λ (rest, e). cc)
begins_or_not (false ∷ code) (true ∷ left) = inr (λ (rest, e). cc)
begins_or_not (true ∷ code) (true ∷ left) =
    elim (begins_or_not code left) [ inl p ↦ inl (p.0, ap (λ x. true ∷ x) p.1) | inr none ↦ inr (λ (rest, e). none (rest, cc)) ]
begins_or_not (false ∷ code) (false ∷ left) =
    elim (begins_or_not code left) [ inl p ↦ inl (p.0, ap (λ x. false ∷ x) p.1) | inr none ↦ inr (λ (rest, e). none (rest, cc)) ]

-- each number is that of a value of se(v)
next_signed : (v : ℤ) → (w : ℤ) × (code_number w ≡ suc (code_number v))
next_signed (pos zero) = (pos 1, refl)
next_signed (pos (suc n)) = (negsuc n, omega arith)
next_signed (negsuc n) = (pos (suc (suc n)), omega arith)

signed_of : (n : ℕ) → (v : ℤ) × (code_number v ≡ n)
signed_of zero = (pos 0, refl)
signed_of (suc n) = let before = signed_of n in let next = next_signed before.0 in (next.0, next.1 ∙ ap suc before.1)

fixed_begins : (n total : ℕ) (left : List Bool) → CodeOrCause (Fixed n) total left
unfolding HasCode code_of MayEnd Misses
fixed_begins n total left =
    elim (leb_tells n (length left)) [
      | inl p ↦
          let size : length (take n left) ≡ n = length-take-le n left p.1 in
          let small : number (take n left) < 2 ^ n = rw size at (number-below (take n left)) in
          let bits : left ≡ fixed n (number (take n left)) ++ drop n left = rw (fixed_of n (take n left) size) (sym (take-append-drop n left)) in
          inl (pos (number (take n left)), drop n left, record { value = small; bits = bits; end = tt })
      | inr p ↦ inr (causes.Short, p.1)
    ]

golomb_begins : (total : ℕ) (left : List Bool) → CodeOrCause Golomb total left
unfolding HasCode code_of MayEnd Misses
golomb_begins total left =
    elim (three_ways left) [
      | inl (v, is, (rest, bits)) ↦ inl (pos v, rest, record { value = is; bits = bits; end = tt })
      | inr others ↦ elim others [ inl ends ↦ inr (causes.Short, ends) | inr long ↦ inr (causes.LongCode, long) ]
    ]

signed_from : (v : ℤ) (n total : ℕ) (left rest : List Bool) → code_number v ≡ n → IsCodeNumber n → left ≡ exp_golomb n ++ rest → BeginsCode SignedGolomb total v left rest
unfolding HasCode code_of MayEnd
signed_from v n total left rest same is bits = record { value = rw same is; bits = rw same bits; end = tt }

signed_begins : (total : ℕ) (left : List Bool) → CodeOrCause SignedGolomb total left
unfolding HasCode code_of MayEnd Misses
signed_begins total left =
    elim (three_ways left) [
      | inl (n, is, (rest, bits)) ↦ let v = signed_of n in inl (v.0, rest, signed_from v.0 n total left rest v.1 is bits)
      | inr others ↦ elim others [ inl ends ↦ inr (causes.Short, ends) | inr long ↦ inr (causes.LongCode, long) ]
    ]

zeros_begin : (total : ℕ) (left : List Bool) → CodeOrCause Zeros total left
unfolding HasCode code_of MayEnd Misses
zeros_begin total left =
    elim (begins_or_not (zeros_from (total - length left)) left) [
      | inl p ↦ inl (pos 0, p.0, record { value = refl; bits = p.1; end = tt })
      | inr none ↦ inr (causes.BadAlignment, none)
    ]

one_begins : (total : ℕ) (left : List Bool) → CodeOrCause OneAndZeros total left
unfolding HasCode code_of MayEnd Misses
one_begins total [] = inr (causes.Short, refl)
one_begins total (b ∷ left) =
    elim (begins_or_not (one_from (total - length (b ∷ left))) (b ∷ left)) [
      | inl p ↦ inl (pos 0, p.0, record { value = refl; bits = p.1; end = tt })
      | inr none ↦ inr (causes.BadAlignment, (λ e. cc, none))
    ]

-- a code with which bits begin is all of them, or it isn't
whole_or_not : (code left rest : List Bool) → left ≡ code ++ rest → (rest ≡ []) ⊎ (left ≢ code)
whole_or_not code left [] is = inl refl
whole_or_not code left (b ∷ rest) is = inr (λ same. omega (arith, ap length is, length-append code (b ∷ rest), ap length same))

trailing_begins : (total : ℕ) (left : List Bool) → CodeOrCause Trailing total left
unfolding HasCode code_of MayEnd Misses
trailing_begins total [] = inr (causes.Short, refl)
trailing_begins total (b ∷ left) =
    let code : List Bool = one_from (total - length (b ∷ left)) in
    elim (begins_or_not code (b ∷ left)) [
      | inl p ↦
          elim (whole_or_not code (b ∷ left) p.0 p.1) [
            | inl end ↦ inl (pos 0, p.0, record { value = refl; bits = p.1; end = end })
            | inr more ↦ inr (causes.BadTrailing, (λ e. cc, more))
          ]
      | inr none ↦ inr (causes.BadTrailing, (λ e. cc, λ same. none ([], same ∙ sym (append-nil code))))
    ]

absent_begins : (total : ℕ) (left : List Bool) → CodeOrCause Absent total left
unfolding HasCode code_of MayEnd
absent_begins total left = inl (pos 0, left, record { value = refl; bits = refl; end = tt })

refused_begins : (total : ℕ) (left : List Bool) → CodeOrCause Refused total left
unfolding Misses
refused_begins total left = inr (causes.OutOfRange, tt)

code_begins : (coding : Coding ℕ) (total : ℕ) (left : List Bool) → CodeOrCause coding total left
code_begins (Fixed n) total left = fixed_begins n total left
code_begins Golomb total left = golomb_begins total left
code_begins SignedGolomb total left = signed_begins total left
code_begins Zeros total left = zeros_begin total left
code_begins OneAndZeros total left = one_begins total left
code_begins Trailing total left = trailing_begins total left
code_begins Absent total left = absent_begins total left
code_begins Refused total left = refused_begins total left

some_or_none : (fault : Option Fault) → (fault ≡ None) ⊎ ((f : Fault) × (fault ≡ Some f))
some_or_none None = inl refl
some_or_none (Some f) = inr (f, refl)

-- bits begin with a field or it is refused
field_answers : (cell : Cell ℕ) (total : ℕ) (left : List Bool)
    → ((v : ℤ) × (rest : List Bool) × BeginsField cell total v left rest) ⊎ ((r : Refusal) × IsRefusedField cell total left r)
field_answers cell total left =
    elim (code_begins cell.coding total left) [
      | inl (v, rest, code) ↦
          elim (some_or_none (fault_of cell.limits v)) [
            | inl range ↦ inl (v, rest, record { code = code; range = range })
            | inr (f, out) ↦ inr (_, broken code out)
          ]
      | inr (cause, m) ↦ inr (_, missed m)
    ]

abbrev Answer : {A : Type 0} → Form A → ℕ → List Bool → Type 0
Answer form total left = ((values : List ℤ) × (rest : List Bool) × Spells total form values left rest)
    ⊎ ((values : List ℤ) × (cell : Cell ℕ) × (rest : List Bool) × (refusal : Refusal) × Reaches total form values left cell rest × IsRefusedField cell total rest refusal)

-- behind a field that they begin with
answer_behind : {A : Type 0} {cell : Cell ℕ} {goes : ℤ → Form A} {total : ℕ} {v : ℤ} {left mid : List Bool} → BeginsField cell total v left mid → Answer (goes v) total mid → Answer (field cell goes) total left
answer_behind {v} begins (inl (values, rest, spelled)) = inl (v ∷ values, rest, behind begins spelled)
answer_behind {v} begins (inr (values, next, rest, r, reached, out)) = inr (v ∷ values, next, rest, r, later begins reached, out)

answer : {A : Type 0} (form : Form A) (total : ℕ) (left : List Bool) → Answer form total left
answer (done a) total left = inl ([], left, at_end)
answer (field cell goes) total left =
    elim (field_answers cell total left) [
      | inl (v, mid, begins) ↦ answer_behind begins (answer (goes v) total mid)
      | inr (r, out) ↦ inr ([], cell, left, r, here, out)
    ]

pub answers_always : AnswersAlways
answers_always form total left = answer form total left
