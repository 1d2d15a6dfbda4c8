-- Groups of slices as they are found in a list of slices, one after another.
use Rattle.std.specs.Prelude.{◌≡◌, ℕ, ◌*◌, ◌<◌, Bool, List, [], ◌∷◌, All}
use Rattle.vx_bits.specs.declared.list.Item.{Item}
use Rattle.vx_layout.specs.declared.rect.Rect.{Rect}
use Rattle.vx_pps.specs.declared.groups.Span.{Span}
use Rattle.vx_pps.specs.declared.tiles.Tiles.{Tiles}
use Rattle.vx_pps.specs.Tiles.{across, down}
use Rattle.vx_pps.specs.Groups.{Group, Lies, high_of, slices_of_group, slices_of_all, first_tile_of, wide_of}
use Rattle.vx_pps.specs.Written.{delta_items, last_items, turn_items}

-- The group begins at a tile of the picture, and lies in it.
pub record LiesInside (g : Tiles) (group : Group) : Type 0 where
  pub inside : first_tile_of group < across g * down g
  pub lies : Lies g group

-- Groups of these slices.
pub record AreGroups (g : Tiles) (groups : List Group) (slices : List Rect) : Type 0 where
  pub same : slices_of_all g groups ≡ slices
  pub inside : All (LiesInside g) groups

-- The slices here are those of a group, and those after them of groups.
pub record Stand (g : Tiles) (here behind : List Rect) (group : Group) (groups : List Group) : Type 0 where
  pub same : slices_of_group g group ≡ here
  pub inside : LiesInside g group
  pub others : AreGroups g groups behind

-- The tiles of a group.
pub record IsSpan (span : Span) (group : Group) : Type 0 where
  pub start_is : span.start ≡ first_tile_of group
  pub wide_is : span.wide ≡ wide_of group
  pub high_is : span.high ≡ high_of group

-- The step to the next group, if there is one.
abbrev pub delta_behind : Bool → ℕ → List Group → List Item
delta_behind deltas t [] = []
delta_behind deltas t (next ∷ more) = delta_items deltas t (first_tile_of next)

-- What is written of a group with others after it.
abbrev pub group_items : Tiles → Bool → Group → List Group → List Item
group_items g deltas group [] = last_items g deltas group
group_items g deltas group (next ∷ more) = turn_items g deltas deltas group (first_tile_of next)
