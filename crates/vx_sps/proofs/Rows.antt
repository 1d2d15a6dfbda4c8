-- The tests over the rows of the groups: what is taken over, what is left alone, and what a group reads.
use Rattle.std.proofs.Common.{◌≡◌, ℕ, true, List, [], ◌∷◌, ◌++◌, refl}
use Rattle.vx_fields.specs.declared.sps.TheConstants.{sps_max_sublayers_minus1, sps_log2_ctu_size_minus5, sps_timing_hrd_params_present_flag, sps_num_subpics_minus1, sps_independent_subpics_flag, sps_subpic_same_size_flag}
use Rattle.vx_table.specs.Scope.{fresh}
use Rattle.vx_table.specs.Forms.{has_value}
use Rattle.vx_table.specs.Parts.{Section}
use Rattle.vx_table.specs.EachField.{sections_pass}
use Rattle.vx_table.specs.Claims.{knows_formula, knows_width, knows_range, knows_presence, hides_counter, hides_row, behind_field, within_block, depends, behind_rows, table_depends, behind_table, comes_always, sections_chain, sections_hide}
use Rattle.vx_table.specs.laws.Again.{shows_row}
use Rattle.vx_table.specs.Loaded.{names_none, sections_name_none}
use Rattle.vx_sps.specs.Depends.{taken_sps_fields}
use Rattle.vx_sps.specs.Structure.{ids, start, profile, resampling, picture, counts, dpb, tools, timing, end, sps_sections}

-- ---- groups that are taken over: their fields depend on what is taken over alone, and all are taken over

-- names that have no number before the picture
abbrev pub unset : List ℕ
unset = sps_num_subpics_minus1 ∷ sps_independent_subpics_flag ∷ sps_subpic_same_size_flag ∷ []

abbrev pub is_taken : List Section → Type 0
is_taken group = (sections_chain taken_sps_fields taken_sps_fields group ≡ true) × (sections_pass (shows_row taken_sps_fields) group ≡ true) × (sections_hide [] group ≡ true) × (sections_hide unset group ≡ true)

pub start_taken : is_taken start
unfolding fresh has_value knows_formula knows_width knows_range knows_presence hides_counter hides_row behind_field within_block depends behind_rows table_depends behind_table comes_always shows_row
start_taken = (refl, refl, refl, refl)

pub resampling_taken : is_taken resampling
unfolding fresh has_value knows_formula knows_width knows_range knows_presence hides_counter hides_row behind_field within_block depends behind_rows table_depends behind_table comes_always shows_row
resampling_taken = (refl, refl, refl, refl)

pub counts_taken : is_taken counts
unfolding fresh has_value knows_formula knows_width knows_range knows_presence hides_counter hides_row behind_field within_block depends behind_rows table_depends behind_table comes_always shows_row
counts_taken = (refl, refl, refl, refl)

pub tools_taken : is_taken tools
unfolding fresh has_value knows_formula knows_width knows_range knows_presence hides_counter hides_row behind_field within_block depends behind_rows table_depends behind_table comes_always shows_row
tools_taken = (refl, refl, refl, refl)

pub end_taken : is_taken end
unfolding fresh has_value knows_formula knows_width knows_range knows_presence hides_counter hides_row behind_field within_block depends behind_rows table_depends behind_table comes_always shows_row
end_taken = (refl, refl, refl, refl)

-- ---- groups that are replaced: none of their fields is taken over

abbrev pub is_replaced : List Section → Type 0
is_replaced group = (sections_hide taken_sps_fields group ≡ true) × (sections_hide [] group ≡ true)

pub ids_replaced : is_replaced ids
unfolding fresh hides_counter hides_row
ids_replaced = (refl, refl)

pub profile_replaced : is_replaced profile
unfolding fresh hides_counter hides_row
profile_replaced = (refl, refl)

pub picture_replaced : is_replaced picture
unfolding fresh hides_counter hides_row
picture_replaced = (refl, refl)

pub dpb_replaced : is_replaced dpb
unfolding fresh hides_counter hides_row
dpb_replaced = (refl, refl)

pub timing_replaced : is_replaced timing
unfolding fresh hides_counter hides_row
timing_replaced = (refl, refl)

pub ids_unset : sections_hide unset ids ≡ true
unfolding fresh hides_counter hides_row
ids_unset = refl

pub profile_unset : sections_hide unset profile ≡ true
unfolding fresh hides_counter hides_row
profile_unset = refl

-- ---- the numbers that the replaced groups read: the items give them, and what follows leaves them alone

abbrev pub read_numbers : List ℕ
read_numbers = sps_max_sublayers_minus1 ∷ sps_timing_hrd_params_present_flag ∷ []

abbrev pub early_numbers : List ℕ
early_numbers = sps_max_sublayers_minus1 ∷ sps_log2_ctu_size_minus5 ∷ []

pub numbers_load : sections_name_none read_numbers sps_sections ≡ true
unfolding fresh names_none hides_counter
numbers_load = refl

pub early_load : sections_name_none early_numbers sps_sections ≡ true
unfolding fresh names_none hides_counter
early_load = refl

abbrev pub from_timing : List Section
from_timing = timing ++ end

abbrev pub from_tools : List Section
from_tools = tools ++ from_timing

abbrev pub from_dpb : List Section
from_dpb = dpb ++ from_tools

abbrev pub from_counts : List Section
from_counts = counts ++ from_dpb

abbrev pub from_picture : List Section
from_picture = picture ++ from_counts

abbrev pub from_resampling : List Section
from_resampling = resampling ++ from_picture

abbrev pub from_profile : List Section
from_profile = profile ++ from_resampling

abbrev pub from_start : List Section
from_start = start ++ from_profile

pub profile_stands : sections_hide early_numbers from_profile ≡ true
unfolding fresh hides_counter hides_row
profile_stands = refl

pub picture_stands : sections_hide early_numbers from_picture ≡ true
unfolding fresh hides_counter hides_row
picture_stands = refl

pub dpb_stands : sections_hide early_numbers from_dpb ≡ true
unfolding fresh hides_counter hides_row
dpb_stands = refl

pub timed_stands : sections_hide read_numbers from_timing ≡ true
unfolding fresh hides_counter hides_row
timed_stands = refl
