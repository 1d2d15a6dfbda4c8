-- Slices of a picture as a slice list describes them: groups, each a slice of whole tiles or the slices of one tile (H.266 7.3.2.5,
-- 7.4.3.5, 6.5.1). Definitions of written slice lists rely on it.
use Rattle.std.specs.Prelude.{◌≡◌, ◌==◌, ℕ, ◌+◌, ◌-◌, ◌*◌, ◌<◌, ◌≤◌, ◌||◌, Bool, false, List, [], ◌∷◌, ◌++◌, All, length, sum}
use Rattle.std.specs.List.{AllPairs}
use Rattle.vx_layout.specs.declared.rect.Rect.{Rect}
use Rattle.vx_layout.specs.Bounds.{Rises, last}
use Rattle.vx_layout.specs.Rects.{CoversOnce, IsPart, Precedes}
use Rattle.vx_layout.specs.Shapes.{AreListable}
use Rattle.vx_pps.specs.declared.tiles.Tiles.{Tiles}
use Rattle.vx_pps.specs.Tiles.{IsGrid, across, block, column, down, row, tile, tile_behind}

-- One slice of a number of tiles across and down from a tile on, or the slices of a tile, with these heights (our own).
pub data Group : Type 0 where
  whole : ℕ → ℕ → ℕ → Group
  cut : ℕ → List ℕ → Group

-- Its first tile, and its tiles across and down (our own).
abbrev pub first_tile_of : Group → ℕ
first_tile_of (whole t wide high) = t
first_tile_of (cut t heights) = t

abbrev pub wide_of : Group → ℕ
wide_of (whole t wide high) = wide
wide_of (cut t heights) = 1

abbrev pub high_of : Group → ℕ
high_of (whole t wide high) = high
high_of (cut t heights) = 1

-- Rows of a tile from CTU row y on, under one another, as slices (SliceHeightInCtus, 6.5.1).
abbrev pub strips : Rect → ℕ → List ℕ → List Rect
strips t y [] = []
strips t y (height ∷ heights) = record { x = t.x; y = y; w = t.w; h = height } ∷ strips t (y + height) heights

-- The slices of a group (6.5.1).
abbrev pub slices_of_group : Tiles → Group → List Rect
slices_of_group g (whole t wide high) = block g t wide high ∷ []
slices_of_group g (cut t heights) = strips (tile g t) (tile g t).y heights

-- The slices of groups, one group after another (our own).
abbrev pub slices_of_all : Tiles → List Group → List Rect
slices_of_all g [] = []
slices_of_all g (group ∷ groups) = slices_of_group g group ++ slices_of_all g groups

-- The group lies in the picture, and the slices of a tile, two or more, fill it (our own).
abbrev pub Lies : Tiles → Group → Type 0
Lies g (whole t wide high) = (1 ≤ wide) × (1 ≤ high) × (column g t + wide ≤ across g) × (row g t + high ≤ down g)
Lies g (cut t heights) = (2 ≤ length heights) × All (λ h. 1 ≤ h) heights × (sum heights ≡ (tile g t).h)

-- Whether pps_slice_height_in_tiles_minus1 is coded for a slice that begins at tile t: if tile indices are, or in the first
-- column. Elsewhere the slice has the height of the one before (7.3.2.5).
abbrev pub spells_height : Tiles → Bool → ℕ → Bool
spells_height g deltas t = deltas || column g t == 0

-- The group begins at a tile and lies in the picture; if its height isn't coded, it has that of the one before, less 1, except in
-- the last row (7.3.2.5, 7.4.3.5).
pub record GroupStands (g : Tiles) (deltas : Bool) (before : ℕ) (group : Group) : Type 0 where
  pub inside : first_tile_of group < across g * down g
  pub lies : Lies g group
  pub height : spells_height g deltas (first_tile_of group) ≡ false → row g (first_tile_of group) + 1 < down g → before ≡ high_of group - 1

-- A slice of whole tiles reaches to the last column and row (7.4.3.5).
abbrev pub Ends : Tiles → Group → Type 0
Ends g (whole t wide high) = (column g t + wide ≡ across g) × (row g t + high ≡ down g)
Ends g (cut t heights) = Unit {0}

-- Groups that can be listed after a slice with this height, less 1: each is where the list leads, and the last one ends the
-- picture (7.3.2.5, 7.4.3.5).
abbrev pub Follow : Tiles → Bool → ℕ → List Group → Type 0
Follow g deltas before [] = ⊥
Follow g deltas before (group ∷ []) = GroupStands g deltas before group × Ends g group
Follow g deltas before (group ∷ next ∷ more) =
    GroupStands g deltas before group
    × (deltas ≡ false → first_tile_of next ≡ tile_behind g (first_tile_of group) (wide_of group - 1) (high_of group - 1))
    × Follow g deltas (high_of group - 1) (next ∷ more)

-- Slices that cover a picture of these tiles in order, and that a slice list can describe.
pub record IsList (g : Tiles) (slices : List Rect) : Type 0 where
  pub grid : IsGrid g
  pub columns : Rises g.columns
  pub rows : Rises g.rows
  pub once : CoversOnce slices (last g.columns) (last g.rows)
  pub order : AllPairs Precedes slices
  pub parts : All (IsPart (last g.columns) (last g.rows)) slices
  pub listable : AreListable g.columns g.rows slices

-- Groups whose slices they are, and which can be listed, with tile indices or without (our own).
pub record InGroups (g : Tiles) (deltas : Bool) (slices : List Rect) : Type 0 where
  pub group : Group
  pub groups : List Group
  pub same : slices_of_all g (group ∷ groups) ≡ slices
  pub first : first_tile_of group ≡ 0
  pub follow : Follow g deltas 0 (group ∷ groups)
