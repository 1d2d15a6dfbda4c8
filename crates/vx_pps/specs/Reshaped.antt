-- The rewritten picture parameter set: what it copies from its source, and what it states (H.266 7.3.2.5). The contract of
-- `reshape_pps` relies on it.
use Rattle.std.specs.Prelude.{◌≡◌, ◌==◌, ℕ, ℤ, pos, ◌+◌, ◌-◌, ◌*◌, ◌^◌, ◌<◌, ◌≤◌, ◌≤ℤ◌, ◌%◌, neg_ℤ, Bool, true, false, cond, ◌&&◌, ◌||◌, nat_lt}
use Rattle.std.specs.Prelude.{List, [], ◌∷◌, ◌++◌, length, Option, Some, None, IfSome}
use Rattle.std.specs.Int.{div_ceil}
use Rattle.vx_bits.specs.declared.list.Item.{Item}
use Rattle.vx_bits.specs.Fields.{first_value}
use Rattle.vx_fields.specs.declared.pps.TheConstants as pps
use Rattle.vx_layout.specs.Bounds.{last, sizes_between}
use Rattle.vx_layout.specs.declared.numbers.Numbers.{Numbers}
use Rattle.vx_layout.specs.declared.rect.Rect.{Rect}
use Rattle.vx_layout.specs.Layouts.{HasLayout}
use Rattle.vx_layout.specs.Rects.{whole_picture}
use Rattle.vx_layout.specs.Shapes.{AreListable}
use Rattle.vx_table.specs.Loaded.{number}
use Rattle.vx_table.specs.Parts.{Section, always}
use Rattle.vx_table.specs.Rewritten.{IsRewritten}
use Rattle.vx_table.specs.Scope.{is_set, one_if, powers_below}
use Rattle.vx_table.specs.Shown.{shown_items}
use Rattle.vx_table.specs.Unstarred.{unstarred}
use Rattle.vx_pps.specs.declared.shape.PpsShape.{PpsShape}
use Rattle.vx_pps.specs.declared.tables.TheConstants as tables
use Rattle.vx_pps.specs.declared.tiles.Tiles.{Tiles}
use Rattle.vx_pps.specs.Tiles.{across, down}
use Rattle.vx_pps.specs.Groups.{Group, InGroups}
use Rattle.vx_table.specs.Loaded.{numbers_of}
use Rattle.vx_pps.specs.Pps.{ArePpsItems, before_tiles, tile_columns_of, kept_pps_fields, kept_pps_items, pps_form, tile_rows_of, slice_list_of}
use Rattle.vx_pps.specs.Written.{only_item, list_items, tile_size_items}
use Rattle.vx_table.specs.Rewritten.{where_so}

-- ---- what is stated, in the order of the syntax (7.3.2.5; what is stated is our own choice)

-- An item with the number that the source's last one gives the field: 0 if it has none (our own).
abbrev pub items_of_source : List Item → ℕ → List Item
items_of_source source of = only_item of (pos (number source of))

-- pps_no_pic_partition_flag: a frame is partitioned, and a region if its source is (7.3.2.5).
abbrev pub whole_flag : List Item → PpsShape → ℕ
whole_flag source shape = cond shape.merged 0 (number source pps.pps_no_pic_partition_flag)

-- The id of the one subpicture, if this set has it (7.3.2.5).
abbrev pub pps_subpic_id_items : ℕ → Option (ℕ × ℕ) → List Item
pps_subpic_id_items whole None = only_item pps.pps_subpic_id_mapping_present_flag (pos 0)
pps_subpic_id_items whole (Some (bits, id)) =
    only_item pps.pps_subpic_id_mapping_present_flag (pos 1)
    ++ (where_so (whole == 0) (only_item pps.pps_num_subpics_minus1 (pos 0))
    ++ (only_item pps.pps_subpic_id_len_minus1 (pos bits) ++ only_item pps.pps_subpic_id (pos id)))

-- Ids, size, no conformance window, whether it is partitioned (7.3.2.5).
abbrev pub front_items : ℕ → PpsShape → List Item
front_items whole shape =
    only_item pps.pps_pic_parameter_set_id (pos shape.id)
    ++ (only_item pps.pps_seq_parameter_set_id (pos shape.sps_id)
    ++ (only_item pps.pps_pic_width_in_luma_samples (pos shape.width)
    ++ (only_item pps.pps_pic_height_in_luma_samples (pos shape.height)
    ++ (only_item pps.pps_conformance_window_flag (pos 0)
    ++ (only_item pps.pps_no_pic_partition_flag (pos whole)
    ++ pps_subpic_id_items whole shape.subpic_id)))))

-- The flags of several tiles (7.3.2.5).
abbrev pub tile_flag_items : PpsShape → List Item
tile_flag_items shape = where_so (nat_lt 1 (across shape.tiles * down shape.tiles))
    (only_item pps.pps_loop_filter_across_tiles_enabled_flag (pos (one_if shape.across_tiles)) ++ only_item pps.pps_rect_slice_flag (pos 1))

-- Tile indices are coded for three slices and more (our own).
abbrev pub has_deltas : PpsShape → Bool
has_deltas shape = nat_lt 2 (length shape.slices)

-- The number of the slices, their list, tile by tile, and whether loop filters cross their borders (7.3.2.5).
abbrev pub slice_list_items : PpsShape → List Group → List Item
slice_list_items shape groups =
    only_item pps.pps_num_slices_in_pic_minus1 (pos (length shape.slices - 1))
    ++ (where_so (has_deltas shape) (only_item pps.pps_tile_idx_delta_present_flag (pos 1))
    ++ (list_items shape.tiles (has_deltas shape) groups
    ++ where_so (nat_lt 1 (length shape.slices)) (only_item pps.pps_loop_filter_across_slices_enabled_flag (pos (one_if shape.across_slices)))))

-- All tile columns and rows, each with its size (7.3.2.5).
abbrev pub tile_items : PpsShape → List Item
tile_items shape =
    only_item pps.pps_num_exp_tile_columns_minus1 (pos (across shape.tiles - 1))
    ++ (only_item pps.pps_num_exp_tile_rows_minus1 (pos (down shape.tiles - 1))
    ++ (tile_size_items pps.pps_tile_column_width_minus1 (sizes_between shape.tiles.columns)
    ++ tile_size_items pps.pps_tile_row_height_minus1 (sizes_between shape.tiles.rows)))

-- The CTU size, the tiles, and the slices in these groups (7.3.2.5).
abbrev pub divided_items : PpsShape → List Group → List Item
divided_items shape groups =
    only_item pps.pps_log2_ctu_size_minus5 (pos (powers_below 32 shape.ctb - 5))
    ++ (tile_items shape
    ++ (tile_flag_items shape
    ++ (only_item pps.pps_single_slice_per_subpic_flag (pos 0)
    ++ slice_list_items shape groups)))

-- The fields of tiles and slices: each group has slices of whole tiles, or the slices of one tile.
pub record Divides (shape : PpsShape) (items : List Item) : Type 0 where
  pub groups : InGroups shape.tiles (has_deltas shape) shape.slices
  pub same : items ≡ divided_items shape (groups.group ∷ groups.groups)

-- There are none for a picture that isn't partitioned.
abbrev pub IsDivision : Bool → PpsShape → List Item → Type 0
IsDivision true shape items = items ≡ []
IsDivision false shape items = Divides shape items

-- The new items of a frame's tools: the QP, and what is in picture headers, as in the source, except for the adaptive loop filter
-- and the QP, which are in slice headers (7.3.2.5).
abbrev pub has_weights : List Item → Bool
has_weights source =
    (is_set (number source pps.pps_weighted_pred_flag) || is_set (number source pps.pps_weighted_bipred_flag))
    && is_set (number source pps.pps_rpl_info_in_ph_flag)

abbrev pub info_items : List Item → List Item
info_items source =
    items_of_source source pps.pps_rpl_info_in_ph_flag
    ++ (items_of_source source pps.pps_sao_info_in_ph_flag
    ++ (only_item pps.pps_alf_info_in_ph_flag (pos 0)
    ++ (where_so (has_weights source) (items_of_source source pps.pps_wp_info_in_ph_flag)
    ++ only_item pps.pps_qp_delta_info_in_ph_flag (pos 0))))

abbrev pub frame_tool_items : List Item → ℤ → List Item
frame_tool_items source init_qp =
    only_item pps.pps_init_qp_minus26 init_qp
    ++ (where_so (is_set (number source pps.pps_deblocking_filter_override_enabled_flag)) (items_of_source source pps.pps_dbf_info_in_ph_flag)
    ++ info_items source)

abbrev pub tool_items : List Item → PpsShape → List Item
tool_items source shape = where_so shape.merged (frame_tool_items source shape.init_qp)

-- All that is stated.
pub record IsStated (source : List Item) (shape : PpsShape) (items : List Item) : Type 0 where
  pub division : List Item
  pub divides : IsDivision (is_set (whole_flag source shape)) shape division
  pub all : items ≡ front_items (whole_flag source shape) shape ++ (division ++ tool_items source shape)

-- ---- shapes

-- A width or height in luma samples.
pub record IsSize (n : ℕ) : Type 0 where
  pub some : 0 < n
  pub small : n ≤ 16384
  pub whole : n % 8 ≡ 0

-- A picture of these tiles and slices, as one subpicture.
abbrev pub picture_of : Tiles → List Rect → Numbers
picture_of g slices = record {
  columns = g.columns;
  rows = g.rows;
  slices = slices;
  subpics = whole_picture (last g.columns) (last g.rows) ∷ [];
}

-- Tiles and slices of a picture of that size: they have a layout as one subpicture, and a slice list can name the slices.
pub record CanBeDivided (shape : PpsShape) : Type 0 where
  pub ctb : (log2 : ℕ) × (log2 < 3) × (shape.ctb ≡ 2 ^ (log2 + 5))
  pub columns : last shape.tiles.columns ≡ div_ceil shape.width shape.ctb
  pub rows : last shape.tiles.rows ≡ div_ceil shape.height shape.ctb
  pub layout : HasLayout (picture_of shape.tiles shape.slices)
  pub listable : AreListable shape.tiles.columns shape.tiles.rows shape.slices

-- Numbers that a set can have.
pub record IsShape (source : List Item) (shape : PpsShape) : Type 0 where
  pub id : shape.id < 64
  pub sps_id : shape.sps_id < 16
  pub width : IsSize shape.width
  pub height : IsSize shape.height
  pub subpic_id : IfSome shape.subpic_id (λ (bits, id). (bits ≤ 15) × (id < 2 ^ (bits + 1)))
  pub init_qp : (neg_ℤ (pos 38) ≤ℤ shape.init_qp) × (shape.init_qp ≤ℤ pos 37)
  pub divided : whole_flag source shape ≡ 0 → CanBeDivided shape

-- ---- the rewritten set (our own)

-- The fields that are copied for a region: the kept fields, the QP, and where filter and QP are; and the gap at the end.
abbrev pub taken_for_region : List ℕ
taken_for_region = pps.pps_init_qp_minus26 ∷ pps.pps_alf_info_in_ph_flag ∷ pps.pps_qp_delta_info_in_ph_flag ∷ pps.pps_rbsp_trailing_bits
    ∷ kept_pps_fields

-- For a frame: the kept fields, except for those that say what is in picture headers; and this gap.
abbrev pub tools_for_frame : List Section
tools_for_frame = always tables.PREDICTION ∷ always tables.QP_OFFSETS ∷ always tables.DBF_CONTROL ∷ always tables.DBF_OFFSETS
    ∷ always tables.END ∷ []

abbrev pub taken_for_frame : List ℕ
taken_for_frame = pps.pps_rbsp_trailing_bits ∷ unstarred (before_tiles ++ tools_for_frame)

abbrev pub taken : PpsShape → List ℕ
taken shape = cond shape.merged taken_for_frame taken_for_region

-- The items are those of a set. Those of the fields that are copied are the source's, and the others are exactly what is
-- stated.
pub record IsReshapedPps (source : List Item) (shape : PpsShape) (items : List Item) : Type 0 where
  pub others : List Item
  pub stated : IsStated source shape others
  pub rewritten : IsRewritten pps_form (taken shape) (shown_items (taken shape) source) others items

-- If a rewritten set is partitioned, then its tile columns, tile rows and slices are exactly the shape's.
abbrev pub ReshapedHasItsTiles : Type 0
ReshapedHasItsTiles =
    (source items : List Item) (shape : PpsShape) → ArePpsItems source → IsShape source shape → IsReshapedPps source shape items
    → whole_flag source shape ≡ 0
    → (tile_columns_of items ≡ shape.tiles.columns) × (tile_rows_of items ≡ shape.tiles.rows) × (slice_list_of items ≡ Some shape.slices)

-- The set for a region keeps what its source keeps, also in place of absent fields.
abbrev pub RegionKeeps : Type 0
RegionKeeps =
    (source items : List Item) (shape : PpsShape) → ArePpsItems source → IsShape source shape → IsReshapedPps source shape items
    → shape.merged ≡ false → kept_pps_items items ≡ kept_pps_items source

-- So does the set for a frame.
abbrev pub FrameKeeps : Type 0
FrameKeeps =
    (source items : List Item) (shape : PpsShape) → ArePpsItems source → IsReshapedPps source shape items → shape.merged ≡ true
    → kept_pps_items items ≡ kept_pps_items source

-- ---- what it says

-- The id of its one subpicture, with this number of bits, less 1.
pub record MapsId (bits id : ℕ) (items : List Item) : Type 0 where
  pub mapped : number items pps.pps_subpic_id_mapping_present_flag ≡ 1
  pub id_len : number items pps.pps_subpic_id_len_minus1 ≡ bits
  pub ids : numbers_of items pps.pps_subpic_id ≡ id ∷ []

-- For a picture that is partitioned, the size of CTUs, and whether loop filters cross the borders of tiles and of slices, if
-- there are several.
pub record TellsDivision (shape : PpsShape) (items : List Item) : Type 0 where
  pub ctb : (log2 : ℕ) → log2 < 3 → shape.ctb ≡ 2 ^ (log2 + 5) → number items pps.pps_log2_ctu_size_minus5 ≡ log2
  pub across_tiles : 1 < across shape.tiles * down shape.tiles
      → number items pps.pps_loop_filter_across_tiles_enabled_flag ≡ one_if shape.across_tiles
  pub across_slices : 1 < length shape.slices
      → number items pps.pps_loop_filter_across_slices_enabled_flag ≡ one_if shape.across_slices

-- It has what the shape says: its ids, its size, whether it is partitioned, the id of its one subpicture if that is here, and the
-- QP of a frame.
pub record TellsPpsShape (source : List Item) (shape : PpsShape) (items : List Item) : Type 0 where
  pub id : number items pps.pps_pic_parameter_set_id ≡ shape.id
  pub sps_id : number items pps.pps_seq_parameter_set_id ≡ shape.sps_id
  pub width : number items pps.pps_pic_width_in_luma_samples ≡ shape.width
  pub height : number items pps.pps_pic_height_in_luma_samples ≡ shape.height
  pub whole : number items pps.pps_no_pic_partition_flag ≡ whole_flag source shape
  pub count : number items pps.pps_num_subpics_minus1 ≡ 0
  pub unmapped : shape.subpic_id ≡ None → number items pps.pps_subpic_id_mapping_present_flag ≡ 0
  pub mapped : (bits id : ℕ) → shape.subpic_id ≡ Some (bits, id) → MapsId bits id items
  pub division : whole_flag source shape ≡ 0 → TellsDivision shape items
  pub init_qp : shape.merged ≡ true → first_value items pps.pps_init_qp_minus26 ≡ Some shape.init_qp

abbrev pub ReshapedTells : Type 0
ReshapedTells =
    (source items : List Item) (shape : PpsShape) → ArePpsItems source → IsShape source shape → IsReshapedPps source shape items
    → TellsPpsShape source shape items
