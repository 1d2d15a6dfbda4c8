-- The tests over the rows of the tables: what a rewritten set takes over, what it leaves alone, and what tables read.
use Rattle.std.proofs.Common.{◌≡◌, ◌&&◌, ℕ, Bool, true, false, cond, List, [], ◌∷◌, ◌++◌, refl}
use Rattle.vx_fields.specs.declared.pps.TheConstants as pps
use Rattle.vx_table.specs.Scope.{fresh}
use Rattle.vx_table.specs.Forms.{has_value}
use Rattle.vx_table.specs.Parts.{Section, always}
use Rattle.std.specs.Prelude.{drop, filter, nat_lt}
use Rattle.vx_table.specs.declared.rows.Row.{Row}
use Rattle.vx_table.specs.EachField.{rows_pass, sections_pass}
use Rattle.vx_table.specs.Depends.{has}
use Rattle.vx_table.specs.laws.Bounds.{tells_range}
use Rattle.vx_table.specs.Claims.{knows_formula, knows_width, knows_range, knows_presence, hides_counter, hides_row, behind_field, within_block, depends, behind_rows, table_depends, behind_table, comes_always, sections_chain, sections_hide, sections_depend_only_on}
use Rattle.vx_table.specs.laws.Again.{shows_row}
use Rattle.vx_table.specs.Loaded.{names_none, row_below, code_below, range_below, sections_name_none}
use Rattle.vx_table.specs.Kept.{stands_for_field}
use Rattle.vx_table.specs.Rewritten.{fills_none}
use Rattle.vx_table.specs.Shown.{sections_stars_tell, star_tells}
use Rattle.vx_table.specs.Named.{named_by_all}
use Rattle.vx_pps.specs.Reshaped.{taken_for_region, taken_for_frame}
use Rattle.vx_pps.specs.declared.tables.TheConstants as tables
use Rattle.vx_pps.specs.Pps.{before_tiles, after_slices}

-- what is taken over, for a frame or for a region
abbrev pub names : Bool → List ℕ
names merged = cond merged taken_for_frame taken_for_region

-- ---- the groups of tables

abbrev pub ids : List Section
ids = always tables.IDS ∷ []

abbrev pub nal_types : List Section
nal_types = always tables.NAL_TYPES ∷ []

abbrev pub size : List Section
size = always tables.SIZE ∷ []

abbrev pub output : List Section
output = always tables.OUTPUT ∷ []

abbrev pub subpic_ids : List Section
subpic_ids = always tables.SUBPIC_IDS ∷ []

abbrev pub prediction : List Section
prediction = always tables.PREDICTION ∷ []

abbrev pub init_qp : List Section
init_qp = always tables.INIT_QP ∷ []

abbrev pub qp_offsets : List Section
qp_offsets = always tables.QP_OFFSETS ∷ []

abbrev pub dbf_control : List Section
dbf_control = always tables.DBF_CONTROL ∷ []

abbrev pub dbf_info : List Section
dbf_info = always tables.DBF_INFO ∷ []

abbrev pub dbf_offsets : List Section
dbf_offsets = always tables.DBF_OFFSETS ∷ []

abbrev pub header_info : List Section
header_info = always tables.HEADER_INFO ∷ []

abbrev pub end : List Section
end = always tables.END ∷ []

-- ---- taken over: their fields depend on what is taken over alone, and all are taken over

-- pps_no_pic_partition_flag, whose number is 0 in a frame's set
abbrev pub whole : List ℕ
whole = pps.pps_no_pic_partition_flag ∷ []

abbrev pub IsTaken : Bool → List Section → Type 0
IsTaken merged group = (sections_chain (names merged) (names merged) group ≡ true) × (sections_pass (shows_row (names merged)) group ≡ true) × (sections_hide [] group ≡ true) × (sections_hide whole group ≡ true)

pub nal_types_taken : (merged : Bool) → IsTaken merged nal_types
unfolding fresh has_value knows_formula knows_width knows_range knows_presence hides_counter hides_row behind_field within_block depends behind_rows table_depends behind_table comes_always shows_row
nal_types_taken true = (refl, refl, refl, refl)
nal_types_taken false = (refl, refl, refl, refl)

pub output_taken : (merged : Bool) → IsTaken merged output
unfolding fresh has_value knows_formula knows_width knows_range knows_presence hides_counter hides_row behind_field within_block depends behind_rows table_depends behind_table comes_always shows_row
output_taken true = (refl, refl, refl, refl)
output_taken false = (refl, refl, refl, refl)

pub prediction_taken : IsTaken true prediction
unfolding fresh has_value knows_formula knows_width knows_range knows_presence hides_counter hides_row behind_field within_block depends behind_rows table_depends behind_table comes_always shows_row
prediction_taken = (refl, refl, refl, refl)

pub qp_offsets_taken : IsTaken true qp_offsets
unfolding fresh has_value knows_formula knows_width knows_range knows_presence hides_counter hides_row behind_field within_block depends behind_rows table_depends behind_table comes_always shows_row
qp_offsets_taken = (refl, refl, refl, refl)

pub dbf_control_taken : IsTaken true dbf_control
unfolding fresh has_value knows_formula knows_width knows_range knows_presence hides_counter hides_row behind_field within_block depends behind_rows table_depends behind_table comes_always shows_row
dbf_control_taken = (refl, refl, refl, refl)

pub dbf_offsets_taken : IsTaken true dbf_offsets
unfolding fresh has_value knows_formula knows_width knows_range knows_presence hides_counter hides_row behind_field within_block depends behind_rows table_depends behind_table comes_always shows_row
dbf_offsets_taken = (refl, refl, refl, refl)

pub end_taken : IsTaken true end
unfolding fresh has_value knows_formula knows_width knows_range knows_presence hides_counter hides_row behind_field within_block depends behind_rows table_depends behind_table comes_always shows_row
end_taken = (refl, refl, refl, refl)

-- ---- replaced: none of their fields is taken over

abbrev pub IsReplaced : Bool → List Section → Type 0
IsReplaced merged group = (sections_hide (names merged) group ≡ true) × (sections_hide [] group ≡ true)

pub ids_replaced : (merged : Bool) → IsReplaced merged ids
unfolding fresh hides_counter hides_row
ids_replaced true = (refl, refl)
ids_replaced false = (refl, refl)

pub size_replaced : (merged : Bool) → IsReplaced merged size
unfolding fresh hides_counter hides_row
size_replaced true = (refl, refl)
size_replaced false = (refl, refl)

pub subpic_ids_replaced : (merged : Bool) → IsReplaced merged subpic_ids
unfolding fresh hides_counter hides_row
subpic_ids_replaced true = (refl, refl)
subpic_ids_replaced false = (refl, refl)

-- of a frame's tools, which leave pps_no_pic_partition_flag alone too
abbrev pub IsReplacedThere : List Section → Type 0
IsReplacedThere group = (sections_hide (names true) group ≡ true) × (sections_hide whole group ≡ true)

pub init_qp_replaced : IsReplacedThere init_qp
unfolding fresh hides_counter hides_row
init_qp_replaced = (refl, refl)

pub dbf_info_replaced : IsReplacedThere dbf_info
unfolding fresh hides_counter hides_row
dbf_info_replaced = (refl, refl)

pub header_info_replaced : IsReplacedThere header_info
unfolding fresh hides_counter hides_row
header_info_replaced = (refl, refl)

-- ---- what replaced groups read

abbrev pub ReadsOnly : List ℕ → List Section → Type 0
ReadsOnly given group = (sections_depend_only_on given (named_by_all group) group ≡ true) × (sections_pass (shows_row (given ++ named_by_all group)) group ≡ true)

pub ids_read : ReadsOnly [] ids
unfolding fresh has_value knows_formula knows_width knows_range knows_presence hides_counter hides_row behind_field within_block depends behind_rows table_depends behind_table comes_always shows_row
ids_read = (refl, refl)

pub size_read : ReadsOnly [] size
unfolding fresh has_value knows_formula knows_width knows_range knows_presence hides_counter hides_row behind_field within_block depends behind_rows table_depends behind_table comes_always shows_row
size_read = (refl, refl)

pub subpic_ids_read : ReadsOnly [] subpic_ids
unfolding fresh has_value knows_formula knows_width knows_range knows_presence hides_counter hides_row behind_field within_block depends behind_rows table_depends behind_table comes_always shows_row
subpic_ids_read = (refl, refl)

pub init_qp_read : ReadsOnly [] init_qp
unfolding fresh has_value knows_formula knows_width knows_range knows_presence hides_counter hides_row behind_field within_block depends behind_rows table_depends behind_table comes_always shows_row
init_qp_read = (refl, refl)

abbrev pub dbf_given : List ℕ
dbf_given = pps.pps_no_pic_partition_flag ∷ pps.pps_deblocking_filter_override_enabled_flag ∷ []

pub dbf_info_read : ReadsOnly dbf_given dbf_info
unfolding fresh has_value knows_formula knows_width knows_range knows_presence hides_counter hides_row behind_field within_block depends behind_rows table_depends behind_table comes_always shows_row
dbf_info_read = (refl, refl)

abbrev pub info_given : List ℕ
info_given = pps.pps_no_pic_partition_flag ∷ pps.pps_weighted_pred_flag ∷ pps.pps_weighted_bipred_flag ∷ []

pub header_info_read : ReadsOnly info_given header_info
unfolding fresh has_value knows_formula knows_width knows_range knows_presence hides_counter hides_row behind_field within_block depends behind_rows table_depends behind_table comes_always shows_row
header_info_read = (refl, refl)

-- ---- the tools of a region's set: all are taken over, and they read pps_no_pic_partition_flag alone

abbrev pub tool_names : List ℕ
tool_names = named_by_all after_slices

abbrev pub tools_shown : List ℕ
tools_shown = ((pps.pps_no_pic_partition_flag ∷ []) ++ (tool_names ++ taken_for_region))

pub tools_read : (sections_depend_only_on (pps.pps_no_pic_partition_flag ∷ []) (tool_names ++ taken_for_region) after_slices ≡ true) × (sections_pass (shows_row tools_shown) after_slices ≡ true) × (sections_pass (shows_row (names false)) after_slices ≡ true)
unfolding fresh has_value knows_formula knows_width knows_range knows_presence hides_counter hides_row behind_field within_block depends behind_rows table_depends behind_table comes_always shows_row
tools_read = (refl, refl, refl)

-- ---- numbers

-- of these fields the scope at the end has the numbers of the items
abbrev pub numbered : List ℕ
numbered = pps.pps_pic_width_in_luma_samples ∷ pps.pps_pic_height_in_luma_samples ∷ pps.pps_no_pic_partition_flag ∷ pps.pps_weighted_pred_flag
    ∷ pps.pps_weighted_bipred_flag ∷ []

pub front_numbered : sections_name_none numbered before_tiles ≡ true
unfolding fresh hides_counter names_none
front_numbered = refl

-- the tools give no number to the three of the front
abbrev pub early : List ℕ
early = pps.pps_pic_width_in_luma_samples ∷ pps.pps_pic_height_in_luma_samples ∷ pps.pps_no_pic_partition_flag ∷ []

pub tools_early : sections_hide early after_slices ≡ true
unfolding fresh hides_counter hides_row
tools_early = refl

-- the tools from a group on
abbrev pub from_info : List Section
from_info = header_info ++ end

abbrev pub from_dbf : List Section
from_dbf = dbf_info ++ (dbf_offsets ++ from_info)

pub info_stands : sections_hide numbered from_info ≡ true
unfolding fresh hides_counter hides_row
info_stands = refl

-- this field gets a number, in a scope that has none of it, within one table alone
abbrev pub override : List ℕ
override = pps.pps_deblocking_filter_override_enabled_flag ∷ []

abbrev pub before_control : List Section
before_control = prediction ++ (init_qp ++ qp_offsets)

pub override_stands : (sections_hide override before_tiles ≡ true) × (sections_hide override before_control ≡ true) × (sections_hide override from_dbf ≡ true)
unfolding fresh hides_counter hides_row
override_stands = (refl, refl, refl)

pub override_unshown : (sections_pass (hides_row override) before_tiles ≡ true) × (sections_pass (hides_row override) before_control ≡ true) × (sections_pass (hides_row override) from_dbf ≡ true)
unfolding fresh hides_counter hides_row
override_unshown = (refl, refl, refl)

-- the rows behind the first field of that table and its two names
abbrev pub control_block : List Row
control_block = drop 3 tables.DBF_CONTROL

pub block_loads : rows_pass (names_none override) control_block ≡ true
unfolding fresh hides_counter names_none
block_loads = refl

pub tools_numbered : sections_name_none numbered after_slices ≡ true
unfolding fresh hides_counter names_none
tools_numbered = refl

-- flags
abbrev pub IsFlag : ℕ → Type 0
IsFlag of = (sections_pass (row_below of 2) before_tiles ≡ true) × (sections_pass (row_below of 2) after_slices ≡ true)

pub flags_are : IsFlag pps.pps_no_pic_partition_flag × IsFlag pps.pps_weighted_pred_flag × IsFlag pps.pps_weighted_bipred_flag × IsFlag pps.pps_deblocking_filter_override_enabled_flag × IsFlag pps.pps_dbf_info_in_ph_flag
    × IsFlag pps.pps_rpl_info_in_ph_flag × IsFlag pps.pps_sao_info_in_ph_flag × IsFlag pps.pps_wp_info_in_ph_flag
unfolding has_value row_below code_below range_below
flags_are = ((refl, refl), (refl, refl), (refl, refl), (refl, refl), (refl, refl), (refl, refl), (refl, refl), (refl, refl))

-- two fields that tiles and slices alone have
abbrev pub ctb_size : List ℕ
ctb_size = pps.pps_log2_ctu_size_minus5 ∷ []

abbrev pub single_slices : List ℕ
single_slices = pps.pps_single_slice_per_subpic_flag ∷ []

pub ctb_size_unshown : (sections_pass (hides_row ctb_size) before_tiles ≡ true) × (sections_pass (hides_row ctb_size) after_slices ≡ true)
unfolding fresh hides_counter hides_row
ctb_size_unshown = (refl, refl)

pub single_slices_unshown : (sections_pass (hides_row single_slices) before_tiles ≡ true) × (sections_pass (hides_row single_slices) after_slices ≡ true)
unfolding fresh hides_counter hides_row
single_slices_unshown = (refl, refl)

-- no size is greater, and none is 0
abbrev pub IsLow : ℕ → Type 0
IsLow of = (sections_pass (row_below of 16385) before_tiles ≡ true) × (sections_pass (row_below of 16385) after_slices ≡ true)

pub sizes_are : IsLow pps.pps_pic_width_in_luma_samples × IsLow pps.pps_pic_height_in_luma_samples
unfolding has_value row_below code_below range_below
sizes_are = ((refl, refl), (refl, refl))

pub widths_lie : (sections_pass (tells_range pps.pps_pic_width_in_luma_samples 1 16384) before_tiles ≡ true) × (sections_pass (tells_range pps.pps_pic_height_in_luma_samples 1 16384) before_tiles ≡ true)
unfolding has_value
widths_lie = (refl, refl)

-- the front keeps what is taken over, and fills in nothing
pub front_starred : (merged : Bool) → sections_stars_tell (names merged) before_tiles ≡ true
unfolding fresh star_tells stands_for_field
front_starred true = refl
front_starred false = refl

pub front_fills : sections_pass fills_none before_tiles ≡ true
unfolding fills_none stands_for_field has_value
front_fills = refl

-- ---- what the set for a frame keeps

-- each of some fields is in a set
abbrev pub is_inside : List ℕ → List ℕ → Bool
is_inside more [] = true
is_inside more (x ∷ xs) = has more x && is_inside more xs

-- tables that keep exactly these fields, all taken over, and fill in nothing
abbrev pub IsRun : List ℕ → List Section → Type 0
IsRun fields group = (is_inside (names true) fields ≡ true) × (sections_stars_tell fields group ≡ true) × (sections_pass fills_none group ≡ true)

-- tables with no field of a set
abbrev pub IsAside : List ℕ → List Section → Type 0
IsAside set group = sections_pass (hides_row set) group ≡ true

abbrev pub before_dbf : List Section
before_dbf = before_control ++ dbf_control

abbrev pub front_fields : List ℕ
front_fields = filter (λ n. nat_lt n 417) taken_for_frame

abbrev pub early_fields : List ℕ
early_fields = filter (λ n. nat_lt 432 n && nat_lt n 455) taken_for_frame

abbrev pub offsets_fields : List ℕ
offsets_fields = filter (λ n. nat_lt 455 n && nat_lt n 462) taken_for_frame

abbrev pub end_fields : List ℕ
end_fields = filter (λ n. nat_lt 466 n) taken_for_frame

-- the flags that stand in the place of absent ones too
abbrev pub dbf_flag : List ℕ
dbf_flag = pps.pps_dbf_info_in_ph_flag ∷ []

abbrev pub info_flags : List ℕ
info_flags = pps.pps_rpl_info_in_ph_flag ∷ pps.pps_sao_info_in_ph_flag ∷ pps.pps_wp_info_in_ph_flag ∷ []

pub front_run : IsRun front_fields before_tiles
unfolding fresh star_tells stands_for_field fills_none has_value
front_run = (refl, refl, refl)

pub early_run : IsRun early_fields before_dbf
unfolding fresh star_tells stands_for_field fills_none has_value
early_run = (refl, refl, refl)

pub offsets_run : IsRun offsets_fields dbf_offsets
unfolding fresh star_tells stands_for_field fills_none has_value
offsets_run = (refl, refl, refl)

pub end_run : IsRun end_fields end
unfolding fresh star_tells stands_for_field fills_none has_value
end_run = (refl, refl, refl)

pub front_aside : IsAside front_fields after_slices
unfolding fresh hides_counter hides_row
front_aside = refl

pub early_aside : IsAside early_fields before_tiles × IsAside early_fields from_dbf
unfolding fresh hides_counter hides_row
early_aside = (refl, refl)

pub offsets_aside : IsAside offsets_fields before_tiles × IsAside offsets_fields before_dbf × IsAside offsets_fields dbf_info × IsAside offsets_fields from_info
unfolding fresh hides_counter hides_row
offsets_aside = (refl, refl, refl, refl)

pub end_aside : IsAside end_fields before_tiles × IsAside end_fields before_dbf × IsAside end_fields dbf_info × IsAside end_fields dbf_offsets × IsAside end_fields header_info
unfolding fresh hides_counter hides_row
end_aside = (refl, refl, refl, refl, refl)

pub dbf_aside : IsAside dbf_flag before_tiles × IsAside dbf_flag before_dbf × IsAside dbf_flag (dbf_offsets ++ from_info)
unfolding fresh hides_counter hides_row
dbf_aside = (refl, refl, refl)

pub info_aside : IsAside info_flags before_tiles × IsAside info_flags before_dbf × IsAside info_flags dbf_info × IsAside info_flags dbf_offsets × IsAside info_flags end
unfolding fresh hides_counter hides_row
info_aside = (refl, refl, refl, refl, refl)

pub dbf_stands : sections_hide numbered from_dbf ≡ true
unfolding fresh hides_counter hides_row
dbf_stands = refl
