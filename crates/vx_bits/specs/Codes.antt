-- The codes of H.266 as lists of bits: u(n) of clause 7.2, ue(v) and se(v) of clause 9.2. All readers and writers of
-- syntax rely on them. A one is `true`, and the bit that is read first comes first.
use Rattle.std.specs.Prelude.{◌≡◌, ◌≢◌, ℕ, ◌+◌, ◌-◌, ◌*◌, ◌%◌, ◌^◌, ◌<◌, zero, suc, ℤ, pos, negsuc, nat_le}
use Rattle.std.specs.Prelude.{Bool, true, false, if◌then◌else◌, List, [], ◌∷◌, ◌++◌, length, replicate, slice_index}
use Rattle.std.specs.List.{AllByRecursion}

-- The number that these bits represent in binary, highest bit first.
abbrev pub number : List Bool → ℕ
number [] = 0
number (b ∷ bits) = (if b then 2 ^ length bits else 0) + number bits

-- u(n): the n bits of v, highest first; v is below 2^n (clause 7.2).
unfoldable pub fixed : ℕ → ℕ → List Bool
fixed zero v = []
fixed (suc n) v = if nat_le (2 ^ n) v then true ∷ fixed n (v - 2 ^ n) else false ∷ fixed n v

-- Bytes, as numbers (our own).
abbrev pub AreBytes : List ℕ → Type 0
AreBytes bytes = AllByRecursion (λ b. b < 256) bytes

-- The bits of bytes: eight for each byte, highest first (clause 7.2).
abbrev pub bits_of : List ℕ → List Bool
bits_of [] = []
bits_of (byte ∷ bytes) = fixed 8 byte ++ bits_of bytes

-- The greatest k up to the limit for which 2^k is at most n (our own).
unfoldable pub magnitude : ℕ → ℕ → ℕ
magnitude zero n = 0
magnitude (suc k) n = if nat_le (2 ^ suc k) n then suc k else magnitude k n

-- The number of zeros before the first one of the code of v: 2^k ≤ v + 1 < 2^(k + 1), if v has a code (leadingZeroBits,
-- clause 9.2).
unfoldable pub leading_zeros : ℕ → ℕ
leading_zeros v = magnitude 31 (v + 1)

-- The numbers that ue(v) can code: 0 to 2^32 - 2 (clause 9.2).
abbrev pub IsCodeNumber : ℕ → Type 0
IsCodeNumber v = v + 1 < 2 ^ 32

-- ue(v): k zeros, and then the k + 1 bits of v + 1 (clause 9.2).
unfoldable pub exp_golomb : ℕ → List Bool
exp_golomb v = replicate (leading_zeros v) false ++ fixed (leading_zeros v + 1) (v + 1)

-- The codeNum of a value of se(v): 1, -1, 2, -2 .. have 1, 2, 3, 4 .. (clause 9.2).
abbrev pub code_number : ℤ → ℕ
code_number (pos zero) = 0
code_number (pos (suc n)) = 2 * n + 1
code_number (negsuc n) = 2 * n + 2

-- se(v) (clause 9.2).
abbrev pub signed_exp_golomb : ℤ → List Bool
signed_exp_golomb v = exp_golomb (code_number v)

-- The number of bits from a place to the next byte boundary, at which byte_aligned() holds (clause 7.2).
abbrev pub to_boundary : ℕ → ℕ
to_boundary place = (8 - place % 8) % 8

-- Zeros up to the byte boundary (clause 7.2).
abbrev pub zeros_from : ℕ → List Bool
zeros_from place = replicate (to_boundary place) false

-- A one, and zeros up to the byte boundary: byte_alignment() and rbsp_trailing_bits() (clause 7.3.2).
abbrev pub one_from : ℕ → List Bool
one_from place = true ∷ zeros_from (place + 1)

-- The bytes don't end in 00, as required of the bytes of a NAL unit (clause 7.4.2.1).
abbrev pub EndsInNoZero : List ℕ → Type 0
EndsInNoZero bytes = (k : ℕ) → length bytes ≡ k + 1 → slice_index bytes k ≢ 0

-- The bits begin with that code (our own).
abbrev pub BeginsWith : List Bool → List Bool → Type 0
BeginsWith bits code = (rest : List Bool) × (bits ≡ code ++ rest)

-- The bits end within that code: more of it would follow (our own).
abbrev pub EndsWithin : List Bool → List Bool → Type 0
EndsWithin bits code = (bit : Bool) × (more : List Bool) × (code ≡ bits ++ bit ∷ more)

-- The bits begin with some code of ue(v).
abbrev pub BeginsWithCode : List Bool → Type 0
BeginsWithCode bits = (v : ℕ) × IsCodeNumber v × BeginsWith bits (exp_golomb v)

-- The bits end within some code of ue(v) (clause 9.2).
abbrev pub EndsWithinCode : List Bool → Type 0
EndsWithinCode bits = (v : ℕ) × IsCodeNumber v × EndsWithin bits (exp_golomb v)

-- 32 zeros come first, with which no code begins (clause 9.2).
abbrev pub BeginsTooLong : List Bool → Type 0
BeginsTooLong bits = BeginsWith bits (replicate 32 false)
