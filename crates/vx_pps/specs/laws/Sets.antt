-- Laws on picture parameter sets: how they are spelled, and what their kept fields depend on.
use Rattle.std.specs.Prelude.{◌≡◌, ◌⊎◌, ◌+◌, ◌^◌, ◌<◌, ◌≤◌, ◌&&◌, ℕ, Bool, not, true, false, List, [], ◌∷◌, ◌++◌, length}
use Rattle.std.specs.Prelude.{All, IfSome, is_some, IsTrue, Result, Ok, Err, Some}
use Rattle.std.specs.Int.{div_ceil}
use Rattle.vx_bits.specs.declared.list.Item.{Item}
use Rattle.vx_bits.specs.declared.refusal.ReadError.{ReadError}
use Rattle.vx_bits.specs.declared.refusal.ReadError.TheVariants as errors
use Rattle.vx_fields.specs.declared.pps.TheConstants as pps
use Rattle.vx_fields.specs.declared.names.pps.TheConstants.{LIST, OFFSET, PARTITIONED, HAS_DBF_INFO, IS_WEIGHTED, HAS_WP_INFO}
use Rattle.vx_table.specs.Depends.{has, DependsOnlyOn}
use Rattle.vx_table.specs.EachField.{EachField}
use Rattle.vx_table.specs.Loaded.{number}
use Rattle.vx_table.specs.Parts.{sections_form}
use Rattle.vx_table.specs.Reading.{ReadsValue}
use Rattle.vx_table.specs.Rewritten.{other_items}
use Rattle.vx_table.specs.Scope.{is_set}
use Rattle.vx_table.specs.Shown.{shown_items, KeepsOnly}
use Rattle.vx_layout.specs.declared.rect.Rect.{Rect}
use Rattle.vx_layout.specs.Bounds.{Rises, last}
use Rattle.vx_layout.specs.Rects.{CoversOnce}
use Rattle.vx_layout.specs.Shapes.{AreListable, HasCtu}
use Rattle.vx_pps.specs.declared.partition.Partition.{Partition}
use Rattle.vx_pps.specs.declared.tiles.Tiles.{Tiles}
use Rattle.vx_pps.specs.Tiles.{IsGrid}
use Rattle.vx_pps.specs.Partition.{partition}
use Rattle.vx_pps.specs.Reshaped.{taken_for_frame}
use Rattle.vx_pps.specs.Pps.{ArePpsItems, IsPps, IsPpsSpelling, tile_columns_of, default_active, before_tiles, is_partitioned, kept_pps_fields, kept_pps_items, pps_form, tile_rows_of, slice_list_of, after_slices}

-- ---- spelling

-- What is written of a set is read as it, unless memory runs out.
abbrev pub WrittenIsRead : Type 0
WrittenIsRead =
    (items : List Item) (bytes : List ℕ) (result : Result (List Item) ReadError) → IsPpsSpelling items bytes
    → ReadsValue pps_form bytes result → (result ≡ Ok items) ⊎ (result ≡ Err errors.Memory)

-- No spelling of a set is a proper prefix of another's.
abbrev pub NoProperPrefix : Type 0
NoProperPrefix =
    (items others : List Item) (bytes more : List ℕ) → IsPpsSpelling items bytes → IsPpsSpelling others (bytes ++ more)
    → (items ≡ others) × (more ≡ [])

-- No set is long: its spelling has at most this many bytes.
abbrev pub pps_limit : ℕ
pps_limit = 2 ^ 16

abbrev pub SpellingIsShort : Type 0
SpellingIsShort = (items : List Item) (bytes : List ℕ) → IsPpsSpelling items bytes → length bytes ≤ pps_limit

-- ---- kept fields

-- A field has a star in each of its rows, or in none; and all fields of the tiles and slices have one.
pub record StarsTellKept : Type 0 where
  pub before : KeepsOnly [] kept_pps_fields (sections_form before_tiles)
  pub division : (whole width height : ℕ) → EachField (λ cell. cell.kept ≡ false) (partition whole width height)
  pub behind : KeepsOnly [] kept_pps_fields (sections_form after_slices)

-- They depend only on one another, and on pps_no_pic_partition_flag: if it is 1, those that say what is in picture headers are
-- absent. All others depend only on one another.
pub record KeptDependsOnKept : Type 0 where
  pub before : DependsOnlyOn [] kept_pps_fields (sections_form before_tiles)
  pub behind : DependsOnlyOn (pps.pps_no_pic_partition_flag ∷ [])
      (LIST ∷ OFFSET ∷ PARTITIONED ∷ HAS_DBF_INFO ∷ IS_WEIGHTED ∷ HAS_WP_INFO ∷ kept_pps_fields) (sections_form after_slices)
  pub always : DependsOnlyOn [] (LIST ∷ OFFSET ∷ taken_for_frame) (sections_form after_slices)

-- Sets with the same items of kept fields, and the same others, are the same.
abbrev pub KeptAndOthersTell : Type 0
KeptAndOthersTell =
    (items others : List Item) → ArePpsItems items → ArePpsItems others → shown_items kept_pps_fields items ≡ shown_items kept_pps_fields others
    → other_items kept_pps_fields items ≡ other_items kept_pps_fields others → items ≡ others

-- Two sets give each kept field the same number, and have the same numbers of active entries.
pub record GiveSame (items others : List Item) : Type 0 where
  pub numbers : (n : ℕ) → IsTrue (has kept_pps_fields n) → number items n ≡ number others n
  pub active : (list : ℕ) → default_active items list ≡ default_active others list

-- So do sets with the same kept items, those among them that represent absent fields.
abbrev pub KeptTellsNumbers : Type 0
KeptTellsNumbers =
    (items others : List Item) → ArePpsItems items → ArePpsItems others → kept_pps_items items ≡ kept_pps_items others → GiveSame items others

-- ---- tiles

-- Tiles as a layout requires them: at least one, and not more CTUs than a picture has.
pub record AreTilesInLimits (g : Tiles) : Type 0 where
  pub grid : IsGrid g
  pub columns : Rises g.columns × (last g.columns ≤ 512)
  pub rows : Rises g.rows × (last g.rows ≤ 512)

-- Those of a partitioned picture are.
abbrev pub TilesAreInLimits : Type 0
TilesAreInLimits =
    (items : List Item) (end : Partition) → IsPps items end → is_partitioned items ≡ true → AreTilesInLimits end.tiles

-- ---- the numbers of a layout

-- Bounds of a number of CTUs, as a layout requires them: there are at least two, and not more CTUs than a picture has.
pub record AreTileBounds (bounds : List ℕ) (total : ℕ) : Type 0 where
  pub several : 2 ≤ length bounds
  pub rises : Rises bounds
  pub all : last bounds ≡ total
  pub low : total ≤ 512

-- Slices as a layout requires them: at least one, and at most 1,000, each with a CTU.
pub record AreSlices (slices : List Rect) : Type 0 where
  pub some : 1 ≤ length slices
  pub few : length slices ≤ 1000
  pub each : All HasCtu slices

-- A width or height that isn't 0, and no greater than 512 CTUs of the least size.
pub record IsWide (samples : ℕ) : Type 0 where
  pub some : 0 < samples
  pub most : samples ≤ 16384

-- The size of a CTU in luma samples (CtbSizeY), if the picture is partitioned.
abbrev pub pps_ctb_size : List Item → ℕ
pps_ctb_size items = 2 ^ (number items pps.pps_log2_ctu_size_minus5 + 5)

-- The CTUs across and down (PicWidthInCtbsY, PicHeightInCtbsY).
abbrev pub columns_in : List Item → ℕ
columns_in items = div_ceil (number items pps.pps_pic_width_in_luma_samples) (pps_ctb_size items)

abbrev pub rows_in : List Item → ℕ
rows_in items = div_ceil (number items pps.pps_pic_height_in_luma_samples) (pps_ctb_size items)

-- pps_single_slice_per_subpic_flag is 1: each subpicture is a slice.
abbrev pub is_single : List Item → Bool
is_single items = is_set (number items pps.pps_single_slice_per_subpic_flag)

-- A set determines the size of a picture; for a partitioned one its tiles, and its slices unless each subpicture is one; for
-- another neither.
pub record TellsPartition (items : List Item) : Type 0 where
  pub width : IsWide (number items pps.pps_pic_width_in_luma_samples)
  pub height : IsWide (number items pps.pps_pic_height_in_luma_samples)
  pub ctb : is_partitioned items ≡ true → number items pps.pps_log2_ctu_size_minus5 < 3
  pub columns : is_partitioned items ≡ true → AreTileBounds (tile_columns_of items) (columns_in items)
  pub rows : is_partitioned items ≡ true → AreTileBounds (tile_rows_of items) (rows_in items)
  pub no_tiles : is_partitioned items ≡ false → (tile_columns_of items ≡ []) × (tile_rows_of items ≡ [])
  pub named : is_some (slice_list_of items) ≡ (is_partitioned items && not (is_single items))
  pub slices : IfSome (slice_list_of items) AreSlices

abbrev pub SetsTellPartitions : Type 0
SetsTellPartitions = (items : List Item) → ArePpsItems items → TellsPartition items

-- The slices of a slice list can be listed again, if they cover the picture once.
abbrev pub ReadSlicesAreListable : Type 0
ReadSlicesAreListable =
    (items : List Item) (slices : List Rect) → ArePpsItems items → slice_list_of items ≡ Some slices
    → CoversOnce slices (last (tile_columns_of items)) (last (tile_rows_of items)) → AreListable (tile_columns_of items) (tile_rows_of items) slices
