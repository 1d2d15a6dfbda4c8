-- Codes tell their values apart, and a field is read or refused in one way.
use Rattle.std.proofs.Common.{◌≡◌, ℕ, ℤ, pos, negsuc, ◌-◌, Bool, List, ◌++◌, length, refl, ap, sym, ◌∙◌, arith}
use Rattle.vx_bits.specs.Codes.{fixed, code_number, zeros_from, one_from}
use Rattle.vx_bits.proofs.Bits.{length-fixed, same_fronts}
use Rattle.vx_bits.proofs.Golomb.{fixed_apart, exp_golomb_apart, begins_not_long, begins_not_ends, ends_not_long, signed_once}
use Rattle.vx_table.specs.declared.rows.Coding.{Coding}
use Rattle.vx_table.specs.declared.rows.Coding.TheVariants.{Fixed, Golomb, SignedGolomb, Zeros, OneAndZeros, Trailing, Absent, Refused}
use Rattle.vx_bits.specs.declared.refusal.BitCause.{BitCause}
use Rattle.vx_bits.specs.declared.refusal.BitCause.TheVariants as causes
use Rattle.vx_bits.specs.declared.refusal.Refusal.{Refusal}
use Rattle.vx_bits.specs.declared.refusal.Refusal.TheVariants as refusals
use Rattle.vx_table.specs.declared.rows.Cell.{Cell}
use Rattle.vx_table.specs.Spelling.{HasCode, code_of, MayEnd, BeginsCode, Misses, BeginsField, IsRefusedField, missed, broken, reported}
use Rattle.std.proofs.lemmas.List.{length-append, append-nil}

-- codes of the same kind at the same place tell their values and what follows
pub code_apart : (coding : Coding ℕ) (place : ℕ) (v w : ℤ) (r s : List Bool) → HasCode coding v → HasCode coding w → code_of coding place v ++ r ≡ code_of coding place w ++ s → (v ≡ w) × (r ≡ s)
unfolding HasCode code_of
code_apart (Fixed n) place (pos v) (pos w) r s hv hw e = let p = fixed_apart n v w r s hv hw e in (ap pos p.0, p.1)
code_apart (Fixed n) place (negsuc v) w r s hv hw e = absurd hv
code_apart (Fixed n) place (pos v) (negsuc w) r s hv hw e = absurd hw
code_apart Golomb place (pos v) (pos w) r s hv hw e = let p = exp_golomb_apart v w r s hv hw e in (ap pos p.0, p.1)
code_apart Golomb place (negsuc v) w r s hv hw e = absurd hv
code_apart Golomb place (pos v) (negsuc w) r s hv hw e = absurd hw
code_apart SignedGolomb place v w r s hv hw e = let p = exp_golomb_apart (code_number v) (code_number w) r s hv hw e in (signed_once v w p.0, p.1)
code_apart Zeros place v w r s hv hw e = (hv ∙ sym hw, (same_fronts (zeros_from place) (zeros_from place) r s refl e).1)
code_apart OneAndZeros place v w r s hv hw e = (hv ∙ sym hw, (same_fronts (one_from place) (one_from place) r s refl e).1)
code_apart Trailing place v w r s hv hw e = (hv ∙ sym hw, (same_fronts (one_from place) (one_from place) r s refl e).1)
code_apart Absent place v w r s hv hw e = (hv ∙ sym hw, e)
code_apart Refused place v w r s hv hw e = absurd hv

pub begins_code_apart : {coding : Coding ℕ} {total : ℕ} {v w : ℤ} {left mid rest : List Bool} → BeginsCode coding total v left mid → BeginsCode coding total w left rest → (v ≡ w) × (mid ≡ rest)
begins_code_apart {coding} {total} {v} {w} {left} {mid} {rest} a b = code_apart coding (total - length left) v w mid rest a.value b.value (sym a.bits ∙ b.bits)

-- where a code begins, no cause is found
not_missed : (coding : Coding ℕ) (place : ℕ) (v : ℤ) (left rest : List Bool) (cause : BitCause) → HasCode coding v → left ≡ code_of coding place v ++ rest → MayEnd coding rest → Misses coding place left cause → ⊥
unfolding HasCode code_of MayEnd Misses
not_missed (Fixed n) place (pos v) left rest causes.Short has is end short = omega (arith, ap length is, length-append (fixed n v) rest, length-fixed n v, short)
not_missed (Fixed n) place (negsuc v) left rest causes.Short has is end short = absurd has
not_missed Golomb place (pos v) left rest causes.Short has is end short = begins_not_ends left (v, has, (rest, is)) short
not_missed Golomb place (pos v) left rest causes.LongCode has is end long = begins_not_long left (v, has, (rest, is)) long
not_missed Golomb place (negsuc v) left rest causes.Short has is end short = absurd has
not_missed Golomb place (negsuc v) left rest causes.LongCode has is end long = absurd has
not_missed SignedGolomb place v left rest causes.Short has is end short = begins_not_ends left (code_number v, has, (rest, is)) short
not_missed SignedGolomb place v left rest causes.LongCode has is end long = begins_not_long left (code_number v, has, (rest, is)) long
not_missed Zeros place v left rest causes.BadAlignment has is end bad = bad (rest, is)
not_missed OneAndZeros place v left rest causes.Short has is end short = cc
not_missed OneAndZeros place v left rest causes.BadAlignment has is end bad = bad.1 (rest, is)
not_missed Trailing place v left rest causes.Short has is end short = cc
not_missed Trailing place v left rest causes.BadTrailing has is end bad = bad.1 (is ∙ ap (λ more. one_from place ++ more) end ∙ append-nil (one_from place))
not_missed Refused place v left rest cause has is end none = has
not_missed coding place v left rest cause has is end none = none

-- and only one cause is found
missed_once : (coding : Coding ℕ) (place : ℕ) (left : List Bool) (a b : BitCause) → Misses coding place left a → Misses coding place left b → a ≡ b
unfolding Misses
missed_once (Fixed n) place left causes.Short causes.Short m n' = refl
missed_once Golomb place left causes.Short causes.Short m n = refl
missed_once Golomb place left causes.LongCode causes.LongCode m n = refl
missed_once Golomb place left causes.Short causes.LongCode m n = absurd (ends_not_long left m n)
missed_once Golomb place left causes.LongCode causes.Short m n = absurd (ends_not_long left n m)
missed_once SignedGolomb place left causes.Short causes.Short m n = refl
missed_once SignedGolomb place left causes.LongCode causes.LongCode m n = refl
missed_once SignedGolomb place left causes.Short causes.LongCode m n = absurd (ends_not_long left m n)
missed_once SignedGolomb place left causes.LongCode causes.Short m n = absurd (ends_not_long left n m)
missed_once Zeros place left causes.BadAlignment causes.BadAlignment m n = refl
missed_once OneAndZeros place left causes.Short causes.Short m n = refl
missed_once OneAndZeros place left causes.BadAlignment causes.BadAlignment m n = refl
missed_once OneAndZeros place left causes.Short causes.BadAlignment m n = absurd (n.0 m)
missed_once OneAndZeros place left causes.BadAlignment causes.Short m n = absurd (m.0 n)
missed_once Trailing place left causes.Short causes.Short m n = refl
missed_once Trailing place left causes.BadTrailing causes.BadTrailing m n = refl
missed_once Trailing place left causes.Short causes.BadTrailing m n = absurd (n.0 m)
missed_once Trailing place left causes.BadTrailing causes.Short m n = absurd (m.0 n)
missed_once Refused place left causes.OutOfRange causes.OutOfRange m n = refl
missed_once coding place left a b m n = absurd (assumption (m, n))

-- A field that the bits begin with isn't refused.
pub begins_field_not_refused : {cell : Cell ℕ} {total : ℕ} {v : ℤ} {left mid : List Bool} {r : Refusal} → BeginsField cell total v left mid → IsRefusedField cell total left r → ⊥
begins_field_not_refused {cell} {total} {v} {left} {mid} s (missed {cause} m) = not_missed cell.coding (total - length left) v left mid cause s.code.value s.code.bits s.code.end m
begins_field_not_refused {cell} s (broken {v} {behind} {fault} begins out) =
    let same = (begins_code_apart s.code begins).0 in
    let none = s.range in
    cc

-- A field is refused in one way.
pub refused_once : {cell : Cell ℕ} {total : ℕ} {left : List Bool} {r q : Refusal} → IsRefusedField cell total left r → IsRefusedField cell total left q → r ≡ q
refused_once {cell} {total} {left} (missed {cause = a} m) (missed {cause = b} n) = ap (refusals.Syntax cell.field (total - length left)) (missed_once cell.coding (total - length left) left a b m n)
refused_once {cell} {total} {left} (missed {cause} m) (broken {v} {behind} {fault} b out) = absurd (not_missed cell.coding (total - length left) v left behind cause b.value b.bits b.end m)
refused_once {cell} {total} {left} (broken {v} {behind} {fault} b out) (missed {cause} m) = absurd (not_missed cell.coding (total - length left) v left behind cause b.value b.bits b.end m)
refused_once {cell} {total} {left} (broken {v = v} {fault = f} b out) (broken {v = w} {fault = h} c other) =
    let same = (begins_code_apart b c).0 in
    let fault : f ≡ h = cc in
    ap (λ fault. reported fault cell.field (total - length left)) fault
