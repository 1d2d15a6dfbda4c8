-- Regions of a frame in luma samples, and the conditions under which they fit together. Each becomes a subpicture of the frame
-- (H.266 6.3.1), so its corner is on the grid of CTUs (7.4.3.4). The contract of `fit_regions` relies on it.
use Rattle.std.specs.Prelude.{◌≡◌, ℕ, ◌+◌, ◌/◌, ◌%◌, ◌<◌, ◌≤◌, ◌⊎◌, Bool, true, ◌&&◌, nat_le, nat_lt, max, List, [], ◌∷◌, All, Any, map}
use Rattle.std.specs.Int.{div_ceil}
use Rattle.std.specs.List.{AllPairs}
use Rattle.vx_fit.specs.declared.placed.Placed.{Placed}
use Rattle.vx_layout.specs.declared.rect.Rect.{Rect}
use Rattle.vx_layout.specs.Rects.{Precedes}

-- Whether the region covers the position in column x and row y (our own).
unfoldable pub covers : Placed → ℕ → ℕ → Bool
covers p x y = (nat_le p.x x && nat_lt x (p.x + p.w)) && (nat_le p.y y && nat_lt y (p.y + p.h))

-- The greatest number that f gives for the regions, and 0 if there are none (our own).
abbrev pub greatest_by : (Placed → ℕ) → List Placed → ℕ
greatest_by f [] = 0
greatest_by f (p ∷ ps) = max (f p) (greatest_by f ps)

-- The frame's size in luma samples: it reaches as far right and as far down as a region does (our own).
abbrev pub frame_width : List Placed → ℕ
frame_width placed = greatest_by (λ p. p.x + p.w) placed

abbrev pub frame_height : List Placed → ℕ
frame_height placed = greatest_by (λ p. p.y + p.h) placed

-- The greatest width and height of a frame (our own limit).
abbrev pub greatest_size : ℕ
greatest_size = 16384

abbrev pub IsTooLarge : List Placed → Type 0
IsTooLarge placed = (greatest_size < frame_width placed) ⊎ (greatest_size < frame_height placed)

-- The corner is on the grid of CTUs of `ctb` times `ctb` samples (sps_subpic_ctu_top_left_x and _y, 7.4.3.4).
abbrev pub IsOnGrid : ℕ → Placed → Type 0
IsOnGrid ctb p = (p.x % ctb ≡ 0) × (p.y % ctb ≡ 0)

-- Both regions cover a position (6.3.1).
abbrev pub Overlap : Placed → Placed → Type 0
Overlap p q = (x y : ℕ) × (covers p x y ≡ true) × (covers q x y ≡ true)

-- Some region covers the position (6.3.1).
abbrev pub IsCovered : List Placed → ℕ → ℕ → Type 0
IsCovered placed x y = Any (λ p. covers p x y ≡ true) placed

-- Each position of the frame is covered (6.3.1).
abbrev pub IsFilled : List Placed → Type 0
IsFilled placed = (x y : ℕ) → x < frame_width placed → y < frame_height placed → IsCovered placed x y

-- The CTUs of a region, a last one that is cut off counted whole (7.4.3.4).
abbrev pub in_ctus : ℕ → Placed → Rect
in_ctus ctb p = record { x = p.x / ctb; y = p.y / ctb; w = div_ceil p.w ctb; h = div_ceil p.h ctb }

-- The regions make up a frame that isn't too large: they are on the grid, don't overlap and fill it, and no CTU of one has its
-- left or upper neighbour in a later one.
pub record FitTogether (placed : List Placed) (ctb : ℕ) : Type 0 where
  pub small : ¬ IsTooLarge placed
  pub grid : All (IsOnGrid ctb) placed
  pub apart : AllPairs (λ p q. ¬ Overlap p q) placed
  pub filled : IsFilled placed
  pub order : AllPairs Precedes (map (in_ctus ctb) placed)

-- Numbers that a region may have.
pub record IsInRange (p : Placed) : Type 0 where
  pub left : p.x ≤ greatest_size
  pub top : p.y ≤ greatest_size
  pub wide : (1 ≤ p.w) × (p.w ≤ greatest_size)
  pub high : (1 ≤ p.h) × (p.h ≤ greatest_size)
