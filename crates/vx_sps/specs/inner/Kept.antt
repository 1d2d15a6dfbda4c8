-- What a set stores of its items, computed once.
use Rattle.std.specs.Prelude.{◌≡◌, ℕ, ◌<◌, Bool, List, [], Option, length, slice_get, Some}
use Rattle.vx_bits.specs.declared.list.Item.{Item}
use Rattle.vx_fields.specs.declared.sps.TheConstants as sps
use Rattle.vx_rpl.specs.declared.entry.RplTable.{RplTable}
use Rattle.vx_rpl.specs.Resolved.{table_of}
use Rattle.vx_table.specs.Loaded.{number}
use Rattle.vx_table.specs.ReadFrom.{IsReadFrom}
use Rattle.vx_table.specs.Scope.{fresh, loaded, is_set}
use Rattle.vx_sps.specs.declared.subpictures.Numbers.{Numbers}
use Rattle.vx_sps.specs.declared.subpictures.Subpicture.{Subpicture}
use Rattle.vx_sps.specs.Structure.{sps_form}
use Rattle.vx_sps.specs.Set.{AreSpsItems, ctu_columns_of, ctu_rows_of, is_weighted, extra_ph_bits_of, extra_sh_bits_of}
use Rattle.vx_sps.specs.Subpictures.{subpics_of, rect_of, is_treated, is_filtered, sps_subpic_id_of}
use Rattle.vx_table.specs.Loaded.{numbers_of}

-- No numbers of subpictures.
abbrev pub no_numbers : Numbers
no_numbers = record { x = []; y = []; w = []; h = []; treated = []; filtered = []; ids = [] }

-- The numbers of subpictures in the items.
abbrev pub subpicture_numbers : List Item → Numbers
subpicture_numbers items = record {
  x = numbers_of items sps.sps_subpic_ctu_top_left_x;
  y = numbers_of items sps.sps_subpic_ctu_top_left_y;
  w = numbers_of items sps.sps_subpic_width_minus1;
  h = numbers_of items sps.sps_subpic_height_minus1;
  treated = numbers_of items sps.sps_subpic_treated_as_pic_flag;
  filtered = numbers_of items sps.sps_loop_filter_across_subpic_enabled_flag;
  ids = numbers_of items sps.sps_subpic_id;
}

-- What the items say of the subpictures, in a picture with these columns and rows.
pub record IsTold (items : List Item) (across down : ℕ) (same : Bool) (noted : Numbers) : Type 0 where
  pub columns : across ≡ ctu_columns_of items
  pub rows : down ≡ ctu_rows_of items
  pub same_size : same ≡ is_set (number items sps.sps_subpic_same_size_flag)
  pub numbers : noted ≡ subpicture_numbers items

-- What is kept of subpicture i.
abbrev pub subpicture_of : List Item → ℕ → Subpicture
subpicture_of items i = record {
  rect = rect_of items i;
  treated = is_treated items i;
  filtered = is_filtered items i;
  id = sps_subpic_id_of items i;
}

-- The list is that of the first n subpictures.
pub record AreSubpictures (items : List Item) (n : ℕ) (list : List Subpicture) : Type 0 where
  pub count : length list ≡ n
  pub each : (i : ℕ) → i < n → slice_get list i ≡ Some (subpicture_of items i)

-- Everything that is stored is what the items of a set say; the RBSP, if it is known, is read as them.
pub record IsKept (items : List Item) (rbsp : Option (List ℕ)) (scope : List ℕ) (list : List Subpicture) (structures : RplTable) (in_ph in_sh : ℕ) : Type 0 where
  pub set : AreSpsItems items
  pub read : IsReadFrom sps_form rbsp items
  pub numbers : scope ≡ loaded fresh items
  pub subpictures : AreSubpictures items (subpics_of items) list
  pub table : structures ≡ table_of (is_weighted items) items
  pub ph_bits : in_ph ≡ extra_ph_bits_of items
  pub sh_bits : in_sh ≡ extra_sh_bits_of items
