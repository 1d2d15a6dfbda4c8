-- The tile lines of a frame in CTUs (the bounds of its tile columns and rows, H.266 6.5.1), and when those that pass through a
-- region are the region's own. `corners` are the regions, by their index, and `parts` the pictures in them. The contract of
-- `fit_lines` relies on it.
use Rattle.std.specs.Prelude.{◌≡◌, ◌↔◌, ℕ, ◌+◌, ◌<◌, ◌⊎◌, List, [], Contains, length}
use Rattle.std.specs.List.{slice_index_or}
use Rattle.vx_layout.specs.declared.numbers.Numbers.{Numbers}
use Rattle.vx_layout.specs.declared.rect.Rect.{Rect}
use Rattle.vx_layout.specs.Bounds.{Rises}
use Rattle.vx_layout.specs.Faults.{SameSides}
use Rattle.vx_layout.specs.Layouts.{no_rect}
use Rattle.vx_fit.specs.declared.lines.LineError.{LineError}
use Rattle.vx_fit.specs.declared.lines.LineError.TheVariants.{Memory, Lines}
use Rattle.vx_fit.specs.Lowest.{IsLowest}

-- ---- lines and regions (our own)

-- No picture: the value past the end of a list.
abbrev pub no_numbers : Numbers
no_numbers = record { columns = []; rows = []; slices = []; subpics = [] }

-- Region k, and the picture in it.
abbrev pub corner_at : List Rect → ℕ → Rect
corner_at corners k = slice_index_or corners k no_rect

abbrev pub part_at : List Numbers → ℕ → Numbers
part_at parts k = slice_index_or parts k no_numbers

-- P holds of some region and its picture, or of each.
abbrev pub OfSome : List Rect → List Numbers → (Rect → Numbers → Type 0) → Type 0
OfSome corners parts P = (k : ℕ) × (k < length corners) × P (corner_at corners k) (part_at parts k)

abbrev pub OfEachRegion : List Rect → List Numbers → (Rect → Numbers → Type 0) → Type 0
OfEachRegion corners parts P = (k : ℕ) → k < length corners → P (corner_at corners k) (part_at parts k)

-- n is a bound of a picture at `from`.
abbrev pub HasBound : ℕ → List ℕ → ℕ → Type 0
HasBound from own n = (c : ℕ) × Contains own c × (from + c ≡ n)

-- n is strictly between the two borders of what begins at `from`.
abbrev pub PassesInside : ℕ → ℕ → ℕ → Type 0
PassesInside from size n = (from < n) × (n < from + size)

-- The vertical lines: each column bound of each picture.
abbrev pub IsVertical : List Rect → List Numbers → ℕ → Type 0
IsVertical corners parts n = OfSome corners parts (λ s p. HasBound s.x p.columns n)

-- The full horizontal lines: each row bound of each picture.
abbrev pub IsFull : List Rect → List Numbers → ℕ → Type 0
IsFull corners parts n = OfSome corners parts (λ s p. HasBound s.y p.rows n)

-- n is an inner tile line of the picture p in region s.
abbrev pub IsInner : Rect → Numbers → ℕ → Type 0
IsInner s p n = PassesInside s.y s.h n × HasBound s.y p.rows n

-- n passes through the region, and is none of its inner tile lines.
abbrev pub Crosses : Rect → Numbers → ℕ → Type 0
Crosses s p n = PassesInside s.y s.h n × (¬ HasBound s.y p.rows n)

-- n is the upper or the lower border of the region.
abbrev pub IsBorder : Rect → ℕ → Type 0
IsBorder s n = (s.y ≡ n) ⊎ (s.y + s.h ≡ n)

abbrev pub HasOneTile : Numbers → Type 0
HasOneTile p = (length p.columns ≡ 2) × (length p.rows ≡ 2)

-- A full line is left out if it passes through a region and is no inner line of it, is an inner line of none, and each region
-- that it bounds has one tile. Those above and below it are then rows of one tile of the frame.
pub record IsDropped (corners : List Rect) (parts : List Numbers) (n : ℕ) : Type 0 where
  pub full : IsFull corners parts n
  pub crosses : OfSome corners parts (λ s p. Crosses s p n)
  pub inner : OfEachRegion corners parts (λ s p. ¬ IsInner s p n)
  pub single : OfEachRegion corners parts (λ s p. IsBorder s n → HasOneTile p)

-- The horizontal lines: the full ones without those that are left out.
abbrev pub IsHorizontal : List Rect → List Numbers → ℕ → Type 0
IsHorizontal corners parts n = IsFull corners parts n × (¬ IsDropped corners parts n)

-- Bounds that are exactly the lines.
pub record AreBounds (IsLine : ℕ → Type 0) (bounds : List ℕ) : Type 0 where
  pub rises : Rises bounds
  pub each : (n : ℕ) → Contains bounds n ↔ IsLine n

-- r is directly above s, with the same columns.
abbrev pub StandsOn : Rect → Rect → Type 0
StandsOn r s = SameSides r s × (r.y + r.h ≡ s.y)

-- If the upper border of region k is left out, then the region before it in the list is directly above it.
abbrev pub FollowsAcrossDropped : List Rect → List Numbers → ℕ → Type 0
FollowsAcrossDropped corners parts k =
    IsDropped corners parts (corner_at corners k).y → (j : ℕ) × (j + 1 ≡ k) × StandsOn (corner_at corners j) (corner_at corners k)

-- Strictly inside what begins at `from`, the lines are the bounds of the picture there.
abbrev pub LinesAreOwn : (ℕ → Type 0) → ℕ → ℕ → List ℕ → Type 0
LinesAreOwn IsLine from size own = (n : ℕ) → PassesInside from size n → IsLine n ↔ HasBound from own n

-- The lines strictly between the borders of region k are its own inner tile lines, and it follows the region above it if the line
-- between the two is left out.
pub record KeepsLines (corners : List Rect) (parts : List Numbers) (k : ℕ) : Type 0 where
  pub columns : LinesAreOwn (IsVertical corners parts) (corner_at corners k).x (corner_at corners k).w (part_at parts k).columns
  pub rows : LinesAreOwn (IsHorizontal corners parts) (corner_at corners k).y (corner_at corners k).h (part_at parts k).rows
  pub above : FollowsAcrossDropped corners parts k

-- Columns and rows that are exactly the frame's lines, if each region keeps its own.
pub record HaveLines (columns rows : List ℕ) (corners : List Rect) (parts : List Numbers) : Type 0 where
  pub vertical : AreBounds (IsVertical corners parts) columns
  pub horizontal : AreBounds (IsHorizontal corners parts) rows
  pub keep : (k : ℕ) → k < length corners → KeepsLines corners parts k

-- k is the lowest region that doesn't keep its lines.
abbrev pub IsLinesFault : List Rect → List Numbers → ℕ → Type 0
IsLinesFault corners parts k = IsLowest (length corners) (λ j. ¬ KeepsLines corners parts j) k

-- P holds of the region that an error names.
abbrev pub IfLines : LineError → (ℕ → Type 0) → Type 0
IfLines Memory P = Unit {0}
IfLines (Lines k) P = P k
