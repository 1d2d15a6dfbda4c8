-- Places in a list of bytes: zeros, marks, and first places. Our own. The definitions of streams and of emulation prevention rely
-- on it.
use Rattle.std.specs.Prelude.{◌≡◌, ℕ, ◌+◌, ◌<◌, ◌≤◌, List, length, slice_index}

-- The bytes from place i up to place j are zeros.
pub record AreZeros (b : List ℕ) (i j : ℕ) : Type 0 where
  pub order : i ≤ j
  pub within : j ≤ length b
  pub each : (k : ℕ) → i ≤ k → k < j → slice_index b k ≡ 0

-- 00 00 and a byte of at most `most` are at place i.
pub record IsMark (most : ℕ) (b : List ℕ) (i : ℕ) : Type 0 where
  pub within : i + 2 < length b
  pub first : slice_index b i ≡ 0
  pub second : slice_index b (i + 1) ≡ 0
  pub third : slice_index b (i + 2) ≤ most

-- e is the first place from s on where P holds.
pub record IsFirstFrom (P : ℕ → Type 0) (s e : ℕ) : Type 0 where
  pub order : s ≤ e
  pub here : P e
  pub before : (k : ℕ) → s ≤ k → k < e → ¬ P k
