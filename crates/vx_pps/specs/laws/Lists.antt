-- Laws on slices that a list can describe.
use Rattle.std.specs.Prelude.{◌≡◌, ℕ, ◌+◌, ◌-◌, ◌^◌, ◌<◌, ◌≤◌, Bool, true, false, List, ◌∷◌, [], length, Some}
use Rattle.vx_layout.specs.declared.rect.Rect.{Rect}
use Rattle.vx_layout.specs.Bounds.{Rises, bounds_of, last, sizes_between}
use Rattle.vx_layout.specs.Layouts.{HasLayout}
use Rattle.vx_layout.specs.Shapes.{AreListable}
use Rattle.vx_pps.specs.declared.tiles.Tiles.{Tiles}
use Rattle.vx_pps.specs.Tiles.{IsGrid}
use Rattle.vx_pps.specs.Groups.{Follow, Group, InGroups, IsList, slices_of_all, first_tile_of}
use Rattle.vx_pps.specs.Slices.{list_from, sizes_from}
use Rattle.vx_pps.specs.Reshaped.{picture_of}
use Rattle.vx_pps.specs.Written.{Gives, list_items, tile_size_items}

-- Such slices fall into groups that can be listed with tile indices.
abbrev pub ListsFallIntoGroups : Type 0
ListsFallIntoGroups = (g : Tiles) (slices : List Rect) → IsList g slices → 0 < length slices → InGroups g true slices

-- If they are one or two, without.
abbrev pub FewFallIntoGroups : Type 0
FewFallIntoGroups = (g : Tiles) (slices : List Rect) → IsList g slices → 0 < length slices → length slices ≤ 2 → InGroups g false slices

-- The slices of a layout of one subpicture are such slices, if a list can describe them.
abbrev pub LayoutsAreLists : Type 0
LayoutsAreLists =
    (g : Tiles) (slices : List Rect) → HasLayout (picture_of g slices) → AreListable g.columns g.rows slices → IsList g slices

-- What is written of groups that can be listed gives their slices, if this is their number, less 1.
abbrev pub ListGivesSlices : Type 0
ListGivesSlices =
    (g : Tiles) (last : ℕ) (deltas : Bool) (group : Group) (groups : List Group) → IsGrid g → last < 1000 → first_tile_of group ≡ 0
    → length (slices_of_all g (group ∷ groups)) ≡ last + 1 → Follow g deltas 0 (group ∷ groups)
    → Gives (list_from g last deltas) (list_items g deltas (group ∷ groups)) (Some (slices_of_all g (group ∷ groups)))

-- So what is written of slices that a list can describe is read back as these slices.
abbrev pub SlicesAreReadBack : Type 0
SlicesAreReadBack =
    (g : Tiles) (slices : List Rect) (last_slice : ℕ) → IsList g slices → length slices ≡ last_slice + 1 → last_slice < 1000
    → (groups : InGroups g true slices)
    × Gives (list_from g last_slice true) (list_items g true (groups.group ∷ groups.groups)) (Some slices)

-- For one or two slices if tile indices aren't coded.
abbrev pub FewAreReadBack : Type 0
FewAreReadBack =
    (g : Tiles) (slices : List Rect) (last_slice : ℕ) → IsList g slices → length slices ≡ last_slice + 1 → last_slice ≤ 1
    → (groups : InGroups g false slices)
    × Gives (list_from g last_slice false) (list_items g false (groups.group ∷ groups.groups)) (Some slices)

-- All sizes of the tile columns or rows are read back, and the bounds are those of these sizes.
abbrev pub BoundsAreReadBack : Type 0
BoundsAreReadBack =
    (of : ℕ) (bounds : List ℕ) → Rises bounds → 2 ≤ length bounds → last bounds < 2 ^ 20
    → Gives (sizes_from of (length bounds - 1) (last bounds) []) (tile_size_items of (sizes_between bounds)) (sizes_between bounds)
    × (bounds_of (sizes_between bounds) (last bounds) ≡ bounds)
