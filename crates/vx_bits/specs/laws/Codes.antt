-- Statements of the laws on codes: a code determines its number, whatever follows it.
use Rattle.std.specs.Prelude.{◌≡◌, ◌==◌, ℕ, ◌+◌, ◌-◌, ◌/◌, ◌%◌, ◌^◌, ◌<◌, ℤ, pos, neg_ℤ, ◌⊎◌, ◌↔◌}
use Rattle.std.specs.Prelude.{Bool, true, false, if◌then◌else◌, List, ◌∷◌, ◌++◌, length, replicate}
use Rattle.vx_bits.specs.Codes.{number, fixed, exp_golomb, IsCodeNumber, BeginsWithCode, EndsWithinCode, BeginsTooLong, code_number}

-- Bits that begin with a code determine its number and what follows it; so no code is a proper prefix of another.
abbrev pub TellsApart : {A : Type 0} → (A → Type 0) → (A → List Bool) → Type 0
TellsApart {A} valid code =
    (v w : A) (r s : List Bool) → valid v → valid w → code v ++ r ≡ code w ++ s → (v ≡ w) × (r ≡ s)

-- n bits are the code u(n) of exactly one number, the one that they represent in binary.
abbrev pub IsBinary : Type 0
IsBinary =
    ((n v : ℕ) → v < 2 ^ n → (length (fixed n v) ≡ n) × (number (fixed n v) ≡ v))
    × ((bits : List Bool) → (number bits < 2 ^ length bits) × (fixed (length bits) (number bits) ≡ bits))

-- For n zeros, a one and n bits after it, codeNum = 2^n - 1 + the number of the n bits (clause 9.2), for each n below
-- 32.
abbrev pub IsParsed : Type 0
IsParsed =
    (bits : List Bool)
    → length bits < 32
    → IsCodeNumber (2 ^ length bits - 1 + number bits)
    × (exp_golomb (2 ^ length bits - 1 + number bits) ≡ replicate (length bits) false ++ true ∷ bits)

-- The value that se(v) codes with codeNum k: (−1)^(k + 1) · Ceil(k ÷ 2) (clause 9.2.2).
abbrev pub mapped : ℕ → ℤ
mapped k = if k % 2 == 1 then pos ((k + 1) / 2) else neg_ℤ (pos ((k + 1) / 2))

-- Each codeNum has the value of clause 9.2.2, and no value has another codeNum.
abbrev pub IsMapped : Type 0
IsMapped = (v : ℤ) (k : ℕ) → (code_number v ≡ k) ↔ (v ≡ mapped k)

-- Bits begin with a code, end within one, or begin with 32 zeros.
abbrev pub BeginsInThreeWays : Type 0
BeginsInThreeWays = (bits : List Bool) → BeginsWithCode bits ⊎ (EndsWithinCode bits ⊎ BeginsTooLong bits)

-- Only one of these three holds.
abbrev pub BeginsInOneWay : Type 0
BeginsInOneWay =
    (bits : List Bool)
    → (BeginsWithCode bits → EndsWithinCode bits → ⊥)
    × (BeginsWithCode bits → BeginsTooLong bits → ⊥)
    × (EndsWithinCode bits → BeginsTooLong bits → ⊥)
