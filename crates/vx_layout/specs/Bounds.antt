-- Tile columns and tile rows along one axis of a picture, in CTUs (H.266 6.5.1). The contracts of `Bounds` and `tile_bounds` rely
-- on it.
use Rattle.std.specs.Prelude.{◌≡◌, ◌==◌, ℕ, ◌+◌, ◌-◌, ◌/◌, ◌%◌, ◌<◌, ◌≤◌, List, [], ◌∷◌, ◌++◌, length, sum, take, replicate, cond}

-- Each number is above the one before it, the first above a (our own).
abbrev pub RisesAbove : ℕ → List ℕ → Type 0
RisesAbove a [] = Unit {0}
RisesAbove a (b ∷ bs) = (a < b) × RisesAbove b bs

-- Bounds: 0, and then each above the one before it (our own).
abbrev pub Rises : List ℕ → Type 0
Rises [] = Unit {0}
Rises (a ∷ bs) = (a ≡ 0) × RisesAbove a bs

-- The last number, or a if there is none (our own).
abbrev pub last_after : ℕ → List ℕ → ℕ
last_after a [] = a
last_after a (b ∷ bs) = last_after b bs

-- The last number, or 0 if there is none (our own).
abbrev pub last : List ℕ → ℕ
last ns = last_after 0 ns

-- The sizes after the explicit ones, if `left` CTUs are left: the last explicit size as often as it fits, and then a rest if
-- there is one (ColWidthVal and RowHeightVal, from uniformTileColWidth and uniformTileRowHeight on, 6.5.1).
abbrev pub repeated_sizes : ℕ → ℕ → List ℕ
repeated_sizes size left = replicate (left / size) size ++ cond (left % size == 0) [] (left % size ∷ [])

-- All sizes (ColWidthVal, RowHeightVal, 6.5.1).
abbrev pub tile_sizes : List ℕ → ℕ → List ℕ
tile_sizes explicit total = explicit ++ repeated_sizes (last explicit) (total - sum explicit)

-- The partial sums of sizes, after a (our own).
abbrev pub sums_after : ℕ → List ℕ → List ℕ
sums_after a [] = []
sums_after a (size ∷ sizes) = (a + size) ∷ sums_after (a + size) sizes

-- The bounds of the tiles (TileColBdVal, TileRowBdVal, 6.5.1).
abbrev pub bounds_of : List ℕ → ℕ → List ℕ
bounds_of explicit total = 0 ∷ sums_after 0 (tile_sizes explicit total)

-- The sizes between a and the bounds after it (our own).
abbrev pub gaps_after : ℕ → List ℕ → List ℕ
gaps_after a [] = []
gaps_after a (b ∷ bs) = (b - a) ∷ gaps_after b bs

-- The sizes of the tile columns or rows that bounds make (our own).
abbrev pub sizes_between : List ℕ → List ℕ
sizes_between [] = []
sizes_between (a ∷ bs) = gaps_after a bs

-- The sum of the explicit sizes first exceeds the total at i.
pub record PassesFirstAt (explicit : List ℕ) (total i : ℕ) : Type 0 where
  pub in_range : i < length explicit
  pub before : sum (take i explicit) ≤ total
  pub passes : total < sum (take (i + 1) explicit)
