-- The tiles of a picture, by their index (H.266 6.5.1), and rectangles of whole tiles. The contracts of `Tiles` rely on it.
use Rattle.std.specs.Prelude.{◌==◌, ℕ, ◌+◌, ◌-◌, ◌*◌, ◌/◌, ◌%◌, ◌^◌, ◌<◌, ◌≤◌, length, slice_index, cond}
use Rattle.vx_layout.specs.declared.rect.Rect.{Rect}
use Rattle.vx_pps.specs.declared.tiles.Tiles.{Tiles}

-- NumTileColumns (6.5.1).
abbrev pub across : Tiles → ℕ
across g = length g.columns - 1

-- NumTileRows (6.5.1).
abbrev pub down : Tiles → ℕ
down g = length g.rows - 1

-- The column of tile t (6.5.1).
abbrev pub column : Tiles → ℕ → ℕ
column g t = t % across g

-- The row of tile t (6.5.1).
abbrev pub row : Tiles → ℕ → ℕ
row g t = t / across g

-- A number of tiles across and down from tile t on, as a rectangle of CTUs (our own).
abbrev pub block : Tiles → ℕ → ℕ → ℕ → Rect
block g t wide high = record {
  x = slice_index g.columns (column g t);
  y = slice_index g.rows (row g t);
  w = slice_index g.columns (column g t + wide) - slice_index g.columns (column g t);
  h = slice_index g.rows (row g t + high) - slice_index g.rows (row g t);
}

-- Tile t (6.5.1).
abbrev pub tile : Tiles → ℕ → Rect
tile g t = block g t 1 1

-- The tile at which the next slice begins if its index isn't coded. The slice before has these numbers of tiles across and down,
-- less 1 each. It is the tile to its right, or after the last column the first one below it (6.5.1, SliceTopLeftTileIdx).
abbrev pub tile_behind : Tiles → ℕ → ℕ → ℕ → ℕ
tile_behind g t width height = t + (width + 1) + cond ((t + (width + 1)) % across g == 0) (height * across g) 0

-- One to 512 tile columns and tile rows, of a picture whose height is bounded.
pub record IsGrid (g : Tiles) : Type 0 where
  pub columns : (2 ≤ length g.columns) × (length g.columns ≤ 513)
  pub rows : (2 ≤ length g.rows) × (length g.rows ≤ 513)
  pub low : (i : ℕ) → slice_index g.rows i < 2 ^ 20
