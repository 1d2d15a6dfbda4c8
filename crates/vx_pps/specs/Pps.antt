-- A picture parameter set: its form, and what its items say (H.266 7.3.2.5, 7.4.3.5). The contracts of `Pps`, `read_pps` and
-- `write_pps` rely on it.
use Rattle.std.specs.Prelude.{◌≡◌, ℕ, not, Bool, List, [], ◌∷◌, ◌++◌, Option, Some, None, Result, Ok, Err, slice_index}
use Rattle.vx_bits.specs.declared.list.Item.{Item}
use Rattle.vx_bits.specs.declared.refusal.ReadError.{ReadError}
use Rattle.vx_bits.specs.declared.refusal.ReadError.TheVariants as errors
use Rattle.vx_bits.specs.Codes.{bits_of}
use Rattle.vx_bits.specs.Place.{Place}
use Rattle.vx_fields.specs.declared.pps.TheConstants as pps
use Rattle.vx_layout.specs.declared.rect.Rect.{Rect}
use Rattle.vx_table.specs.Forms.{Form, done, ◌>>=◌}
use Rattle.vx_table.specs.Kept.{kept_along}
use Rattle.vx_table.specs.Loaded as loading
use Rattle.vx_table.specs.Parts.{Section, always, sections_form}
use Rattle.vx_table.specs.Reading.{Reads, at_front}
use Rattle.vx_table.specs.Scope.{fresh, is_set}
use Rattle.vx_table.specs.Unstarred.{unstarred}
use Rattle.vx_table.specs.Values.{bits_along}
use Rattle.vx_pps.specs.declared.partition.Partition.{Partition}
use Rattle.vx_pps.specs.declared.tables.TheConstants as tables
use Rattle.vx_pps.specs.Items.{end_along, values_in}
use Rattle.vx_table.specs.Loaded.{numbers_of}
use Rattle.vx_pps.specs.Partition.{partition, undivided}
use Rattle.vx_pps.specs.Written.{Gives}

-- ---- the form (7.3.2.5)

-- Before tiles and slices (7.3.2.5).
abbrev pub before_tiles : List Section
before_tiles = always tables.IDS ∷ always tables.NAL_TYPES ∷ always tables.SIZE ∷ always tables.OUTPUT ∷ always tables.SUBPIC_IDS ∷ []

-- After them: the tools of slices, what is in picture headers, and the end (7.3.2.5).
abbrev pub after_slices : List Section
after_slices = always tables.PREDICTION ∷ always tables.INIT_QP ∷ always tables.QP_OFFSETS ∷ always tables.DBF_CONTROL
    ∷ always tables.DBF_INFO ∷ always tables.DBF_OFFSETS ∷ always tables.HEADER_INFO ∷ always tables.END ∷ []

-- The tiles and slices of a picture of that size (7.3.2.5).
abbrev pub partition_at : List ℕ → Form Partition
partition_at s =
    partition (slice_index s pps.pps_no_pic_partition_flag) (slice_index s pps.pps_pic_width_in_luma_samples)
    (slice_index s pps.pps_pic_height_in_luma_samples)

-- pic_parameter_set_rbsp(), at whose end are its tiles and slices (7.3.2.5).
unfoldable pub pps_form : Form Partition
pps_form = do
  s ← sections_form before_tiles fresh
  p ← partition_at s
  t ← sections_form after_slices s
  done p

-- The answer of a reader of its fields that appends their items to these. They are unspecified if memory runs out.
abbrev pub ReadsFields : List ℕ → List Item → Result (Unit {0}) ReadError → List Item → Type 0
ReadsFields rbsp items (Ok u) after = (new : Place) × Reads pps_form (at_front rbsp) items (Ok u) new after
ReadsFields rbsp items (Err errors.Memory) after = Unit {0}
ReadsFields rbsp items (Err (errors.Refused r)) after =
    (new : Place) × Reads {B = Unit {0}} pps_form (at_front rbsp) items (Err (errors.Refused r)) new after

-- ---- what its items say (7.4.3.5)

-- The items are those of a picture parameter set, which has these tiles and slices (7.3.2.5).
abbrev pub IsPps : List Item → Partition → Type 0
IsPps items end = Gives pps_form items end

pub record ArePpsItems (items : List Item) : Type 0 where
  pub end : Partition
  pub set : IsPps items end

-- Those that it has (our own).
abbrev pub or_none : Option Partition → Partition
or_none (Some end) = end
or_none None = undivided

abbrev pub partition_of : List Item → Partition
partition_of items = or_none (end_along pps_form (values_in pps_form items))

-- pps_no_pic_partition_flag is 0: the picture may have several tiles and slices (7.4.3.5).
abbrev pub is_partitioned : List Item → Bool
is_partitioned items = not (is_set (loading.number items pps.pps_no_pic_partition_flag))

-- The bounds of the tile columns and rows of such a picture, in CTUs (6.5.1).
abbrev pub tile_columns_of : List Item → List ℕ
tile_columns_of items = (partition_of items).tiles.columns

abbrev pub tile_rows_of : List Item → List ℕ
tile_rows_of items = (partition_of items).tiles.rows

-- Its slices, unless each subpicture is one (6.5.1).
abbrev pub slice_list_of : List Item → Option (List Rect)
slice_list_of items = (partition_of items).slices

-- The default numbers of active entries of list 0 and of list 1, less 1 (pps_num_ref_idx_default_active_minus1, 7.4.3.5).
abbrev pub default_active : List Item → ℕ → ℕ
default_active items list = slice_index (numbers_of items pps.pps_num_ref_idx_default_active_minus1) list

-- The kept fields: those without a star; no field of the tiles and slices, which are in no table, is one (our own).
abbrev pub kept_pps_fields : List ℕ
kept_pps_fields = unstarred (before_tiles ++ after_slices)

-- The items of its kept fields; those that say what is in picture headers are included even if they are absent, as 0 (our own).
abbrev pub kept_pps_items : List Item → List Item
kept_pps_items items = kept_along pps_form (values_in pps_form items)

-- ---- how it is spelled (7.3.2.5)

-- The bytes are the spelling of the values whose items these are.
pub record IsPpsSpelling (items : List Item) (bytes : List ℕ) : Type 0 where
  pub is : ArePpsItems items
  pub bits : bits_of bytes ≡ bits_along pps_form 0 is.set.values
