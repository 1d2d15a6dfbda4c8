-- The results of the bodies that find a frame's lines.
use Rattle.std.specs.Prelude.{◌≡◌, ◌↔◌, ℕ, ◌+◌, ◌<◌, ◌≤◌, List, All, Contains, Option, None, Some, length}
use Rattle.std.specs.List.{AllZip}
use Rattle.vx_layout.specs.declared.numbers.Numbers.{Numbers}
use Rattle.vx_layout.specs.declared.rect.Rect.{Rect}
use Rattle.vx_layout.specs.Bounds.{Rises}
use Rattle.vx_fit.specs.FrameLines.{HasOneTile, IsBorder, IsFull, IsInner, IsLinesFault, IsVertical, KeepsLines, LinesAreOwn}
use Rattle.vx_fit.specs.Placing.{greatest_size}
use Rattle.vx_fit.specs.Sources.{IsSized}

-- Bounds that are exactly the lines below n.
pub record LinesBelow (IsLine : ℕ → Type 0) (bounds : List ℕ) (n : ℕ) : Type 0 where
  pub rises : Rises bounds
  pub each : (m : ℕ) → Contains bounds m ↔ ((m < n) × IsLine m)

-- Strictly inside a picture at `from`, the bounds are its own.
abbrev pub AreOwn : List ℕ → ℕ → ℕ → List ℕ → Type 0
AreOwn bounds from size own = LinesAreOwn (Contains bounds) from size own

-- The lowest region that doesn't keep its lines, or none if all do.
abbrev pub IsLinesAnswer : List Rect → List Numbers → Option ℕ → Type 0
IsLinesAnswer corners parts None = (k : ℕ) → k < length corners → KeepsLines corners parts k
IsLinesAnswer corners parts (Some k) = IsLinesFault corners parts k

-- The line n may be left out as far as the region s goes.
abbrev pub LetsDrop : Rect → Numbers → ℕ → Type 0
LetsDrop s p n = (¬ IsInner s p n) × (IsBorder s n → HasOneTile p)

-- Pictures in regions of a frame that isn't too large, whose left and upper borders are lines.
pub record AreFramed (corners : List Rect) (parts : List Numbers) : Type 0 where
  pub sized : AllZip IsSized corners parts
  pub same : length corners ≡ length parts
  pub across : All (λ s. s.x + s.w ≤ greatest_size) corners
  pub down : All (λ s. s.y + s.h ≤ greatest_size) corners
  pub left : IsVertical corners parts 0
  pub top : IsFull corners parts 0
