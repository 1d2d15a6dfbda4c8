-- The tiles and slices of a picture parameter set: its fields between the subpicture ids and the tools (H.266 7.3.2.5, 6.5.1). The
-- definition of a set's form relies on it.
use Rattle.std.specs.Prelude.{◌==◌, ℕ, pos, ◌+◌, ◌*◌, ◌^◌, min, nat_lt, Bool, false, cond, is_some, List, [], Option, None}
use Rattle.std.specs.Int.{div_ceil}
use Rattle.vx_bits.specs.declared.rules.TheConstants.{TOO_MANY_SLICES, RASTER_SCAN_SLICES}
use Rattle.vx_fields.specs.declared.pps.TheConstants as pps
use Rattle.vx_layout.specs.declared.rect.Rect.{Rect}
use Rattle.vx_layout.specs.Bounds.{bounds_of}
use Rattle.vx_table.specs.declared.rows.Coding.TheVariants.{Fixed}
use Rattle.vx_table.specs.declared.rows.Fault.TheVariants.{Limit, Profile}
use Rattle.vx_table.specs.declared.rows.Limits.{Limits}
use Rattle.vx_table.specs.declared.rows.Limits.TheVariants.{Below, Within}
use Rattle.vx_table.specs.Forms.{Form, done, field, ◌>>=◌}
use Rattle.vx_table.specs.Scope.{is_set, natural}
use Rattle.vx_pps.specs.declared.partition.Partition.{Partition}
use Rattle.vx_pps.specs.declared.tiles.Tiles.{Tiles}
use Rattle.vx_pps.specs.Tiles.{across, down}
use Rattle.vx_pps.specs.Slices.{below, list_from, golomb_form, sizes_from}

-- A number of ue(v) below a bound (our own).
unfoldable pub golomb_below : ℕ → ℕ → Form ℕ
golomb_below of bound = golomb_form of (below bound)

-- A number of u(n), in these limits (our own).
unfoldable pub fixed_form : ℕ → ℕ → Limits ℕ → Form ℕ
fixed_form of bits limits = field (record { field = of; kept = false; coding = Fixed bits; limits = limits }) (λ v. done (natural v))

-- A flag, which may have no value (our own).
abbrev pub flag : ℕ → Form ℕ
flag of = fixed_form of 1 (below 2)

abbrev pub impossible_flag : ℕ → Form ℕ
impossible_flag of = fixed_form of 1 (below 0)

-- ---- tiles (7.3.2.5, 6.5.1)

-- pps_log2_ctu_size_minus5 (7.3.2.5).
abbrev pub ctu_size : Form ℕ
ctu_size = fixed_form pps.pps_log2_ctu_size_minus5 2 (below 3)

-- No picture has more CTUs across or down: 16,384 samples in CTUs of 32 (our own).
abbrev pub most_ctus : ℕ
most_ctus = 512

-- The CTUs across or down, for a number of samples (PicWidthInCtbsY, PicHeightInCtbsY, 7.4.3.5).
abbrev pub ctus_across : ℕ → ℕ → ℕ
ctus_across samples log2 = min (div_ceil samples (2 ^ (log2 + 5))) most_ctus

-- The explicit sizes of tile columns or rows, by their number and the number of CTUs (7.3.2.5).
unfoldable pub sizes_of : ℕ → ℕ → ℕ → Form (List ℕ)
sizes_of of count total = sizes_from of count total []

-- The tiles with these explicit sizes, in a picture with these numbers of CTUs across and down (TileColBdVal, TileRowBdVal,
-- 6.5.1).
abbrev pub tiles_of : List ℕ → ℕ → List ℕ → ℕ → Tiles
tiles_of widths columns heights rows = record { columns = bounds_of widths columns; rows = bounds_of heights rows }

-- The fields of tile columns and rows, and the tiles (7.3.2.5, 6.5.1).
unfoldable pub tiles_among : ℕ → ℕ → Form Tiles
tiles_among columns rows = do
  last_column ← golomb_below pps.pps_num_exp_tile_columns_minus1 columns
  last_row ← golomb_below pps.pps_num_exp_tile_rows_minus1 rows
  widths ← sizes_of pps.pps_tile_column_width_minus1 (last_column + 1) columns
  heights ← sizes_of pps.pps_tile_row_height_minus1 (last_row + 1) rows
  done (tiles_of widths columns heights rows)

-- pps_loop_filter_across_tiles_enabled_flag and pps_rect_slice_flag, of several tiles (7.3.2.5).
unfoldable pub tile_flags : Tiles → Form ℕ
tile_flags g =
    cond (nat_lt 1 (across g * down g))
    (flag pps.pps_loop_filter_across_tiles_enabled_flag >>= λ v. fixed_form pps.pps_rect_slice_flag 1 (Within (pos 1) 1 (Profile RASTER_SCAN_SLICES)))
    (done 1)

-- ---- slices (7.3.2.5)

-- pps_num_slices_in_pic_minus1 (7.3.2.5).
unfoldable pub last_slice : Form ℕ
last_slice = golomb_form pps.pps_num_slices_in_pic_minus1 (Below 1000 (Limit TOO_MANY_SLICES))

-- pps_tile_idx_delta_present_flag (7.3.2.5).
unfoldable pub deltas_flag : ℕ → Form ℕ
deltas_flag last = cond (nat_lt 1 last) (flag pps.pps_tile_idx_delta_present_flag) (done 0)

-- pps_loop_filter_across_slices_enabled_flag, if there are several slices; after a list that extends past the tiles it has no
-- value (7.3.2.5).
unfoldable pub across_flag : ℕ → Bool → Form ℕ
across_flag last inside =
    cond (last == 0) (done 0)
    (cond inside (flag pps.pps_loop_filter_across_slices_enabled_flag) (impossible_flag pps.pps_loop_filter_across_slices_enabled_flag))

-- The slices of a slice list (7.3.2.5).
unfoldable pub listed_slices : Tiles → Form (Option (List Rect))
listed_slices g = do
  last ← last_slice
  deltas ← deltas_flag last
  slices ← list_from g last (is_set deltas)
  across ← across_flag last (is_some slices)
  done slices

-- No list, if each subpicture is a slice (pps_single_slice_per_subpic_flag, 7.4.3.5).
unfoldable pub subpicture_slices : Form (Option (List Rect))
subpicture_slices = flag pps.pps_loop_filter_across_slices_enabled_flag >>= λ across. done None

-- One or the other (7.3.2.5).
unfoldable pub slices_among : Tiles → ℕ → Form (Option (List Rect))
slices_among g single = cond (is_set single) subpicture_slices (listed_slices g)

-- ---- both (7.3.2.5)

-- Tiles and slices of a picture with these numbers of luma samples across and down (7.3.2.5).
unfoldable pub divided : ℕ → ℕ → Form Partition
divided width height = do
  log2 ← ctu_size
  tiles ← tiles_among (ctus_across width log2) (ctus_across height log2)
  rectangles ← tile_flags tiles
  single ← flag pps.pps_single_slice_per_subpic_flag
  slices ← slices_among tiles single
  done (record { tiles = tiles; slices = slices })

-- Nothing is coded for a picture that isn't partitioned: it has one tile and one slice (pps_no_pic_partition_flag, 7.4.3.5).
abbrev pub no_tiles : Tiles
no_tiles = record { columns = []; rows = [] }

abbrev pub undivided : Partition
undivided = record { tiles = no_tiles; slices = None }

-- By pps_no_pic_partition_flag (7.3.2.5).
unfoldable pub partition : ℕ → ℕ → ℕ → Form Partition
partition whole width height = cond (is_set whole) (done undivided) (divided width height)
