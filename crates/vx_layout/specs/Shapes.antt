-- Slices that a slice list can name tile by tile: whole tiles, or whole rows of one tile (H.266 6.3.1, 7.4.3.5). Laws on slice
-- lists and frames rely on it.
use Rattle.std.specs.Prelude.{◌≡◌, ℕ, ◌+◌, ◌<◌, ◌⊎◌, true, List, All, Contains, length}
use Rattle.std.specs.List.{slice_index_or}
use Rattle.vx_layout.specs.declared.rect.Rect.{Rect}
use Rattle.vx_layout.specs.Faults.{IsTile, SameSides}
use Rattle.vx_layout.specs.Rects.{fits}

-- A rectangle that holds a CTU.
abbrev pub HasCtu : Rect → Type 0
HasCtu r = (0 < r.w) × (0 < r.h)

-- Whole tiles: each border is a bound.
pub record AreTiles (columns rows : List ℕ) (r : Rect) : Type 0 where
  pub left : Contains columns r.x
  pub right : Contains columns (r.x + r.w)
  pub top : Contains rows r.y
  pub bottom : Contains rows (r.y + r.h)

-- Whole CTU rows of the tile t.
pub record AreRowsOf (columns rows : List ℕ) (r t : Rect) : Type 0 where
  pub tile : IsTile columns rows t
  pub sides : SameSides r t
  pub inside : fits r t ≡ true

-- Either.
abbrev pub AreTilesOrRows : List ℕ → List ℕ → Rect → Type 0
AreTilesOrRows columns rows r = AreTiles columns rows r ⊎ ((t : Rect) × AreRowsOf columns rows r t)

-- The rectangles that lie in t are next to each other in the list.
abbrev pub StandTogether : List Rect → Rect → Type 0
StandTogether rects t =
    (i j k : ℕ) (d : Rect) → i < j → j < k → k < length rects → fits (slice_index_or rects i d) t ≡ true
    → fits (slice_index_or rects k d) t ≡ true → fits (slice_index_or rects j d) t ≡ true

-- Slices that hold CTUs, are of one of these shapes, and are listed tile by tile.
pub record AreListable (columns rows : List ℕ) (slices : List Rect) : Type 0 where
  pub some : All HasCtu slices
  pub shapes : All (AreTilesOrRows columns rows) slices
  pub together : (t : Rect) → IsTile columns rows t → StandTogether slices t
