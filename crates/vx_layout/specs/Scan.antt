-- The CTUs of a slice in their order, and its entry points (H.266 6.5.1, 7.4.8). The contract of `count_entries`, and definitions
-- of slice headers, rely on it.
use Rattle.std.specs.Prelude.{◌==◌, ℕ, ◌+◌, ◌-◌, Bool, ◌||◌, ◌&&◌, not, nat_le, cond, List, [], ◌∷◌, filter, map}
use Rattle.std.specs.List.{flat_map, range_with_len}
use Rattle.vx_layout.specs.declared.rect.Rect.{Rect}
use Rattle.vx_layout.specs.Rects.{holds}

-- The columns of each tile column after the bound a, or the rows of each tile row (our own).
abbrev pub runs_after : ℕ → List ℕ → List (List ℕ)
runs_after a [] = []
runs_after a (b ∷ bs) = range_with_len a (b - a) ∷ runs_after b bs

abbrev pub runs : List ℕ → List (List ℕ)
runs [] = []
runs (a ∷ bs) = runs_after a bs

-- The CTUs in these columns and rows, row by row (6.5.1).
abbrev pub raster : List ℕ → List ℕ → List (ℕ × ℕ)
raster xs ys = flat_map (λ y. map (λ x. (x, y)) xs) ys

-- All CTUs of the picture, by tile row, tile column, y and x (the tile scan; a slice's part of it is CtbAddrInSlice, 6.5.1).
abbrev pub tile_scan : List ℕ → List ℕ → List (ℕ × ℕ)
tile_scan columns rows = flat_map (λ ys. flat_map (λ xs. raster xs ys) (runs columns)) (runs rows)

-- The CTUs of a slice's rectangle in this order (CtbAddrInSlice, 6.5.1).
abbrev pub ctus : List ℕ → List ℕ → Rect → List (ℕ × ℕ)
ctus columns rows r = filter (λ c. holds r c.0 c.1) (tile_scan columns rows)

-- The bound at which the tile column or row of x begins (CtbToTileColBd, CtbToTileRowBd, 6.5.1).
abbrev pub tile_bound_after : ℕ → List ℕ → ℕ → ℕ
tile_bound_after a [] x = a
tile_bound_after a (b ∷ bs) x = cond (nat_le b x) (tile_bound_after b bs x) a

abbrev pub tile_bound : List ℕ → ℕ → ℕ
tile_bound [] x = 0
tile_bound (a ∷ bs) x = tile_bound_after a bs x

-- Whether a CTU is in another tile than the CTU before it, or with sync in another row (7.4.8).
abbrev pub starts_entry : (ℕ → ℕ) → (ℕ → ℕ) → Bool → ℕ × ℕ → ℕ × ℕ → Bool
starts_entry column row sync before this =
    not (column before.0 == column this.0) || (not (row before.1 == row this.1) || (sync && not (before.1 == this.1)))

-- How many elements after a differ from the one before them (our own).
abbrev pub changes_after : {X : Type 0} → (X → X → Bool) → X → List X → ℕ
changes_after d a [] = 0
changes_after d a (b ∷ bs) = cond (d a b) 1 0 + changes_after d b bs

abbrev pub changes : {X : Type 0} → (X → X → Bool) → List X → ℕ
changes d [] = 0
changes d (a ∷ bs) = changes_after d a bs

-- The number of entry points of a slice (NumEntryPoints, 7.4.8).
unfoldable pub entries : List ℕ → List ℕ → Rect → Bool → ℕ
entries columns rows r sync = changes (starts_entry (tile_bound columns) (tile_bound rows) sync) (ctus columns rows r)
