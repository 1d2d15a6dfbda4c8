-- The conditions under which tiles, slices and subpictures make up a picture, and the fault if they don't (H.266 6.3.1, 7.4.3.4;
-- the order of slices 7.4.8, sh_slice_address). The contract of `Layout::new` relies on it.
use Rattle.std.specs.Prelude.{◌≡◌, ℕ, ◌+◌, ◌<◌, ◌≤◌, ◌⊎◌, true, List, All, Any, Contains, length}
use Rattle.std.specs.List.{AllPairs}
use Rattle.vx_layout.specs.declared.numbers.Numbers.{Numbers}
use Rattle.vx_layout.specs.declared.numbers.LayoutError.{LayoutError}
use Rattle.vx_layout.specs.declared.numbers.LayoutError.TheVariants.{Memory, Fault}
use Rattle.vx_layout.specs.declared.rect.Rect.{Rect}
use Rattle.vx_layout.specs.Bounds.{last}
use Rattle.vx_layout.specs.Rects.{CoversOnce, IsPart, Precedes, fits, holds, in_order}

-- The numbers of the faults (our own).
abbrev pub subpics_fault : ℕ
subpics_fault = 3

abbrev pub tile_split_fault : ℕ
tile_split_fault = 4

abbrev pub slice_cover_fault : ℕ
slice_cover_fault = 5

abbrev pub slice_split_fault : ℕ
slice_split_fault = 6

abbrev pub order_fault : ℕ
order_fault = 7

-- The picture's size in CTUs (our own).
abbrev pub width : Numbers → ℕ
width n = last n.columns

abbrev pub height : Numbers → ℕ
height n = last n.rows

-- No subpics_fault: each subpicture is a part of the picture, and each CTU lies in exactly one (6.3.1).
pub record SubpicsCover (n : Numbers) : Type 0 where
  pub parts : All (IsPart (width n) (height n)) n.subpics
  pub once : CoversOnce n.subpics (width n) (height n)

-- No bound is strictly between a and b (our own).
abbrev pub NoneBetween : List ℕ → ℕ → ℕ → Type 0
NoneBetween bounds a b = (c : ℕ) → Contains bounds c → a < c → b ≤ c

-- A tile column, or a tile row, goes from the bound a to the next bound, b (6.3.1).
pub record IsSpan (bounds : List ℕ) (a b : ℕ) : Type 0 where
  pub begins : Contains bounds a
  pub ends : Contains bounds b
  pub rises : a < b
  pub next : NoneBetween bounds a b

-- A tile: a tile column in a tile row (6.3.1).
pub record IsTile (columns rows : List ℕ) (t : Rect) : Type 0 where
  pub across : IsSpan columns t.x (t.x + t.w)
  pub down : IsSpan rows t.y (t.y + t.h)

-- The rectangles share a CTU (our own).
abbrev pub Meet : Rect → Rect → Type 0
Meet r s = (x y : ℕ) × (holds r x y ≡ true) × (holds s x y ≡ true)

-- Each CTU of r lies in s (our own).
abbrev pub LiesIn : Rect → Rect → Type 0
LiesIn r s = (x y : ℕ) → holds r x y ≡ true → holds s x y ≡ true

-- The same left and right borders (our own).
abbrev pub SameSides : Rect → Rect → Type 0
SameSides r s = (r.x ≡ s.x) × (r.x + r.w ≡ s.x + s.w)

-- If the tile t shares a CTU with the subpicture s, it lies in it, or contains it between the tile's own left and right borders
-- (6.3.1).
abbrev pub TileAgrees : Rect → Rect → Type 0
TileAgrees t s = Meet t s → LiesIn t s ⊎ (LiesIn s t × SameSides s t)

-- Each tile does so (6.3.1).
abbrev pub SplitsWell : List ℕ → List ℕ → Rect → Type 0
SplitsWell columns rows s = (t : Rect) → IsTile columns rows t → TileAgrees t s

-- No tile_split_fault: each subpicture splits the tiles well (6.3.1).
abbrev pub TilesSplit : Numbers → Type 0
TilesSplit n = All (SplitsWell n.columns n.rows) n.subpics

-- No slice_cover_fault: each CTU lies in exactly one slice (6.3.1).
abbrev pub SlicesCover : Numbers → Type 0
SlicesCover n = CoversOnce n.slices (width n) (height n)

-- No slice_split_fault: each slice lies in one subpicture (6.3.1).
abbrev pub SlicesFit : Numbers → Type 0
SlicesFit n = All (λ r. Any (λ s. fits r s ≡ true) n.subpics) n.slices

-- No order_fault: no CTU has its left or upper neighbour in a later slice (7.4.8, sh_slice_address).
abbrev pub SlicesInOrder : Numbers → Type 0
SlicesInOrder n = AllPairs Precedes (in_order n.slices n.subpics)

-- None of the faults (6.3.1, 7.4.8).
pub record IsLayout (n : Numbers) : Type 0 where
  pub subpics : SubpicsCover n
  pub tiles : TilesSplit n
  pub slices : SlicesCover n
  pub split : SlicesFit n
  pub order : SlicesInOrder n

-- k is the lowest fault (our own).
pub record IsLowestFault (n : Numbers) (k : ℕ) : Type 0 where
  pub from : subpics_fault ≤ k
  pub upto : k ≤ order_fault
  pub breaks_subpics : k ≡ subpics_fault → ¬ SubpicsCover n
  pub keeps_subpics : subpics_fault < k → SubpicsCover n
  pub breaks_tiles : k ≡ tile_split_fault → ¬ TilesSplit n
  pub keeps_tiles : tile_split_fault < k → TilesSplit n
  pub breaks_slices : k ≡ slice_cover_fault → ¬ SlicesCover n
  pub keeps_slices : slice_cover_fault < k → SlicesCover n
  pub breaks_split : k ≡ slice_split_fault → ¬ SlicesFit n
  pub keeps_split : slice_split_fault < k → SlicesFit n
  pub breaks_order : k ≡ order_fault → ¬ SlicesInOrder n

-- P holds of the number of a fault.
abbrev pub IfFault : LayoutError → (ℕ → Type 0) → Type 0
IfFault Memory P = Unit {0}
IfFault (Fault k) P = P k

-- Numbers within the limits of a picture.
pub record IsInLimits (n : Numbers) : Type 0 where
  pub columns : (2 ≤ length n.columns) × (width n ≤ 512)
  pub rows : (2 ≤ length n.rows) × (height n ≤ 512)
  pub slices : (1 ≤ length n.slices) × (length n.slices ≤ 1000)
  pub subpics : (1 ≤ length n.subpics) × (length n.subpics ≤ 1000)
