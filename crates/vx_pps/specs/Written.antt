-- How tile sizes and groups of slices are written: the items of their fields, in the order of H.266 7.3.2.5. Definitions of
-- rewritten sets rely on it.
use Rattle.std.specs.Prelude.{◌≡◌, ◌==◌, ℕ, ℤ, pos, ◌+◌, ◌-◌, Bool, false, cond, List, [], ◌∷◌, ◌++◌, length}
use Rattle.std.specs.Prelude.{neg_ℤ, ◌+ℤ◌}
use Rattle.vx_bits.specs.declared.list.Item.{Item}
use Rattle.vx_fields.specs.declared.pps.TheConstants as pps
use Rattle.vx_layout.specs.Heights.{written_heights}
use Rattle.vx_table.specs.Forms.{Form}
use Rattle.vx_table.specs.Spelling.{items_along}
use Rattle.vx_table.specs.Values.{Follows}
use Rattle.vx_pps.specs.declared.tiles.Tiles.{Tiles}
use Rattle.vx_pps.specs.Tiles.{across, column, down, row, tile}
use Rattle.vx_pps.specs.Slices.{may_be_cut}
use Rattle.vx_pps.specs.Groups.{Group, cut, high_of, spells_height, first_tile_of, whole, wide_of}

-- One item (our own).
abbrev pub only_item : ℕ → ℤ → List Item
only_item of v = record { field = of; value = v } ∷ []

-- All sizes of tile columns or rows (7.3.2.5).
abbrev pub tile_size_items : ℕ → List ℕ → List Item
tile_size_items of [] = []
tile_size_items of (size ∷ sizes) = only_item of (pos (size - 1)) ++ tile_size_items of sizes

-- A slice's tiles across and down (7.3.2.5).
abbrev pub width_items : Tiles → ℕ → ℕ → List Item
width_items g t wide = cond (column g t + 1 == across g) [] (only_item pps.pps_slice_width_in_tiles_minus1 (pos (wide - 1)))

abbrev pub height_items : Tiles → Bool → ℕ → ℕ → List Item
height_items g deltas t high =
    cond (row g t + 1 == down g) [] (cond (spells_height g deltas t) (only_item pps.pps_slice_height_in_tiles_minus1 (pos (high - 1))) [])

-- Heights of slices of a tile (7.3.2.5).
abbrev pub strip_items : List ℕ → List Item
strip_items [] = []
strip_items (height ∷ heights) = only_item pps.pps_exp_slice_height_in_ctus_minus1 (pos (height - 1)) ++ strip_items heights

-- The number of the explicit slices of a tile, and their heights (7.3.2.5).
abbrev pub heights_items : Tiles → Group → List Item
heights_items g (whole t wide high) = cond (may_be_cut (wide - 1) (high - 1) (tile g t)) (only_item pps.pps_num_exp_slices_in_tile (pos 0)) []
heights_items g (cut t heights) =
    only_item pps.pps_num_exp_slices_in_tile (pos (length (written_heights heights))) ++ strip_items (written_heights heights)

-- How far on the next tile is (7.3.2.5).
abbrev pub delta_items : Bool → ℕ → ℕ → List Item
delta_items spelled t next = cond spelled (only_item pps.pps_tile_idx_delta_val (pos next +ℤ neg_ℤ (pos t))) []

-- A group, after which the next one begins at this tile (7.3.2.5).
abbrev pub turn_items : Tiles → Bool → Bool → Group → ℕ → List Item
turn_items g deltas spelled group next =
    width_items g (first_tile_of group) (wide_of group)
    ++ (height_items g deltas (first_tile_of group) (high_of group) ++ (heights_items g group ++ delta_items spelled (first_tile_of group) next))

-- The last group: a slice of whole tiles isn't coded (7.3.2.5).
abbrev pub last_items : Tiles → Bool → Group → List Item
last_items g deltas (whole t wide high) = []
last_items g deltas (cut t heights) = turn_items g deltas false (cut t heights) 0

-- The slice list of these groups (7.3.2.5).
abbrev pub list_items : Tiles → Bool → List Group → List Item
list_items g deltas [] = []
list_items g deltas (group ∷ []) = last_items g deltas group
list_items g deltas (group ∷ next ∷ more) = turn_items g deltas deltas group (first_tile_of next) ++ list_items g deltas (next ∷ more)

-- The items are those of values that go through a form to this end (our own).
pub record Gives {A : Type 0} (form : Form A) (items : List Item) (end : A) : Type 0 where
  pub values : List ℤ
  pub follows : Follows form values end
  pub given : items_along form values ≡ items
