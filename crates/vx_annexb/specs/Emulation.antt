-- Emulation prevention within a NAL unit (H.266 7.3.1.1, 7.4.2.1), by places in a finished list of bytes. All readers and writers
-- of units rely on it.
use Rattle.std.specs.Prelude.{◌≡◌, ℕ, zero, suc, ◌-◌, ◌<◌, ◌≤◌, ◌⊎◌, ◌&&◌, ◌==◌}
use Rattle.std.specs.Prelude.{nat_le, Bool, IsTrue, List, [], ◌∷◌, ◌++◌, length, slice_index, if◌then◌else◌}
use Rattle.vx_bits.specs.Codes.{EndsInNoZero}
use Rattle.vx_annexb.specs.Places.{IsMark}

-- An emulation_prevention_three_byte is at place k: 03 after 00 00 (7.3.1.1).
abbrev pub is_emulation : List ℕ → ℕ → Bool
is_emulation n k = nat_le 2 k && (slice_index n (k - 2) == 0 && (slice_index n (k - 1) == 0 && slice_index n k == 3))

-- The byte at place k is not allowed there: 00, 01 or 02 after 00 00, or more than 03 after 00 00 03 (7.4.2.1).
abbrev pub BreaksRule : List ℕ → ℕ → Type 0
BreaksRule n k =
    ((2 ≤ k) × IsMark 2 n (k - 2))
    ⊎ ((1 ≤ k) × (k < length n) × IsTrue (is_emulation n (k - 1)) × (3 < slice_index n k))

-- The first k bytes of n without their emulation bytes (7.3.1.1).
abbrev pub unescaped_to : List ℕ → ℕ → List ℕ
unescaped_to n zero = []
unescaped_to n (suc k) = if is_emulation n k then unescaped_to n k else unescaped_to n k ++ slice_index n k ∷ []

-- n without its emulation bytes (7.3.1.1).
abbrev pub unescaped : List ℕ → List ℕ
unescaped n = unescaped_to n (length n)

-- n is r with its emulation bytes (7.3.1.1, 7.4.2.1).
pub record IsEscaped (r n : List ℕ) : Type 0 where
  pub rules : (k : ℕ) → ¬ BreaksRule n k
  pub last : EndsInNoZero n
  pub is : r ≡ unescaped n
