-- What is stated goes through the replaced groups: ids, and profile, tier and level.
use Rattle.std.proofs.Common.{◌≡◌, ℕ, ℤ, pos, zero, suc, ◌<◌, true, List, [], ◌∷◌, ◌++◌, length, slice_index, slice_set, replicate, refl, sym, ◌∙◌, arith}
use Rattle.std.proofs.lemmas.List.{length-set}
use Rattle.vx_bits.specs.declared.list.Item.{Item}
use Rattle.vx_fields.specs.declared.ptl.TheConstants as ptl
use Rattle.vx_fields.specs.declared.sps.TheConstants as sps
use Rattle.vx_table.specs.Scope.{fresh, value, natural}
use Rattle.vx_table.specs.Forms.{has_value, coding_at, limits_at, one_field, turns, present, part, form_of, after}
use Rattle.vx_table.specs.Parts.{sections_form}
use Rattle.vx_table.specs.EachField.{sections_pass}
use Rattle.vx_table.specs.Spelling.{HasCode, fault_of, item_of, items_along}
use Rattle.vx_table.specs.Values.{Follows}
use Rattle.vx_table.specs.Claims.{knows_formula, knows_width, knows_range, knows_presence, hides_counter, hides_row, behind_field, within_block, depends, behind_rows, table_depends, behind_table, comes_always}
use Rattle.vx_table.specs.laws.Again.{shows_row}
use Rattle.vx_table.specs.Loaded.{number, row_below, code_below, range_below}
use Rattle.vx_table.specs.Rewrites.{Takes}
use Rattle.vx_table.proofs.Loading.{number_below, sections_stay_below}
use Rattle.vx_table.proofs.Rewrites.{values_take}
use Rattle.vx_sps.specs.Structure.{ids, profile, sps_sections, sps_form}
use Rattle.vx_sps.specs.Reshaped.{item, sps_id_items, profile_items}
use Rattle.vx_table.proofs.Groups.{agree_given, takes_at}
use Rattle.vx_sps.proofs.Testing.{value_is}

-- a scope with one number has as many numbers as one without
pub one_long : (n v : ℕ) (t : List ℕ) → length fresh ≡ length t → length (slice_set fresh n v) ≡ length t
one_long n v t size = length-set fresh n v ∙ size

-- a number of a set's items is below what the rows say
pub below : (of bound : ℕ) {values : List ℤ} {last : List ℕ} → 0 < bound → sections_pass (row_below of bound) sps_sections ≡ true → Follows sps_form values last
    → number (items_along sps_form values) of < bound
below of bound {values} {last} some test follows = number_below of bound sps_form values last some (sections_stay_below of bound sps_sections fresh some test) follows

-- ---- ids

pub ids_take : (id : ℕ) (t : List ℕ) → id < 16 → Takes (sections_form ids t) (sps_id_items id)
unfolding sections_form form_of part one_field after present has_value coding_at limits_at value HasCode fault_of item_of natural
ids_take id t small = values_take (sections_form ids t) (pos id ∷ pos 0 ∷ []) (sps_id_items id) (record { code = small; range = refl }, (record { code = omega arith; range = refl }, tt)) refl

-- ---- profile, tier and level

profile_list : ℕ → ℕ → ℕ → ℕ → ℕ → ℕ → List Item
profile_list most p tier level frames layers =
    item ptl.general_profile_idc p ∷ item ptl.general_tier_flag tier ∷ item ptl.general_level_idc level ∷ item ptl.ptl_frame_only_constraint_flag frames
    ∷ item ptl.ptl_multilayer_enabled_flag layers ∷ item ptl.gci_present_flag 0
    ∷ (replicate most (item ptl.ptl_sublayer_level_present_flag 0) ++ item ptl.ptl_num_sub_profiles 0 ∷ [])

profile_values : ℕ → ℕ → ℕ → ℕ → ℕ → ℕ → List ℤ
profile_values most p tier level frames layers =
    pos p ∷ pos tier ∷ pos level ∷ pos frames ∷ pos layers ∷ pos 0 ∷ pos 0 ∷ (replicate most (pos 0) ++ pos 0 ∷ pos 0 ∷ [])

-- at each number of sublayers
abbrev Profile : ℕ → Type 0
Profile most = (p tier level frames layers : ℕ) → p < 128 → tier < 2 → level < 256 → frames < 2 → layers < 2
    → Takes (sections_form profile (slice_set fresh sps.sps_max_sublayers_minus1 most)) (profile_list most p tier level frames layers)

profile_none : Profile 0
unfolding fresh sections_form form_of part one_field after present turns has_value coding_at limits_at value HasCode fault_of item_of natural profile_list profile_values
profile_none p tier level frames layers a b c d e =
    values_take _ (profile_values 0 p tier level frames layers) _ (record { code = a; range = refl }, (record { code = b; range = refl }, (record { code = c; range = refl }, (record { code = d; range = refl }, (record { code = e; range = refl }, (value_is _ _ refl, (value_is _ _ refl, (value_is _ _ refl, (value_is _ _ refl, tt))))))))) refl

profile_one : Profile 1
unfolding fresh sections_form form_of part one_field after present turns has_value coding_at limits_at value HasCode fault_of item_of natural profile_list profile_values
profile_one p tier level frames layers a b c d e =
    values_take _ (profile_values 1 p tier level frames layers) _ (record { code = a; range = refl }, (record { code = b; range = refl }, (record { code = c; range = refl }, (record { code = d; range = refl }, (record { code = e; range = refl }, (value_is _ _ refl, (value_is _ _ refl, (value_is _ _ refl, (value_is _ _ refl, (value_is _ _ refl, tt)))))))))) refl

profile_two : Profile 2
unfolding fresh sections_form form_of part one_field after present turns has_value coding_at limits_at value HasCode fault_of item_of natural profile_list profile_values
profile_two p tier level frames layers a b c d e =
    values_take _ (profile_values 2 p tier level frames layers) _ (record { code = a; range = refl }, (record { code = b; range = refl }, (record { code = c; range = refl }, (record { code = d; range = refl }, (record { code = e; range = refl }, (value_is _ _ refl, (value_is _ _ refl, (value_is _ _ refl, (value_is _ _ refl, (value_is _ _ refl, (value_is _ _ refl, tt))))))))))) refl

profile_three : Profile 3
unfolding fresh sections_form form_of part one_field after present turns has_value coding_at limits_at value HasCode fault_of item_of natural profile_list profile_values
profile_three p tier level frames layers a b c d e =
    values_take _ (profile_values 3 p tier level frames layers) _ (record { code = a; range = refl }, (record { code = b; range = refl }, (record { code = c; range = refl }, (record { code = d; range = refl }, (record { code = e; range = refl }, (value_is _ _ refl, (value_is _ _ refl, (value_is _ _ refl, (value_is _ _ refl, (value_is _ _ refl, (value_is _ _ refl, (value_is _ _ refl, tt)))))))))))) refl

profile_four : Profile 4
unfolding fresh sections_form form_of part one_field after present turns has_value coding_at limits_at value HasCode fault_of item_of natural profile_list profile_values
profile_four p tier level frames layers a b c d e =
    values_take _ (profile_values 4 p tier level frames layers) _ (record { code = a; range = refl }, (record { code = b; range = refl }, (record { code = c; range = refl }, (record { code = d; range = refl }, (record { code = e; range = refl }, (value_is _ _ refl, (value_is _ _ refl, (value_is _ _ refl, (value_is _ _ refl, (value_is _ _ refl, (value_is _ _ refl, (value_is _ _ refl, (value_is _ _ refl, tt))))))))))))) refl

profile_five : Profile 5
unfolding fresh sections_form form_of part one_field after present turns has_value coding_at limits_at value HasCode fault_of item_of natural profile_list profile_values
profile_five p tier level frames layers a b c d e =
    values_take _ (profile_values 5 p tier level frames layers) _ (record { code = a; range = refl }, (record { code = b; range = refl }, (record { code = c; range = refl }, (record { code = d; range = refl }, (record { code = e; range = refl }, (value_is _ _ refl, (value_is _ _ refl, (value_is _ _ refl, (value_is _ _ refl, (value_is _ _ refl, (value_is _ _ refl, (value_is _ _ refl, (value_is _ _ refl, (value_is _ _ refl, tt)))))))))))))) refl

profile_six : Profile 6
unfolding fresh sections_form form_of part one_field after present turns has_value coding_at limits_at value HasCode fault_of item_of natural profile_list profile_values
profile_six p tier level frames layers a b c d e =
    values_take _ (profile_values 6 p tier level frames layers) _ (record { code = a; range = refl }, (record { code = b; range = refl }, (record { code = c; range = refl }, (record { code = d; range = refl }, (record { code = e; range = refl }, (value_is _ _ refl, (value_is _ _ refl, (value_is _ _ refl, (value_is _ _ refl, (value_is _ _ refl, (value_is _ _ refl, (value_is _ _ refl, (value_is _ _ refl, (value_is _ _ refl, (value_is _ _ refl, tt))))))))))))))) refl

profile_at : (most : ℕ) → most < 7 → Profile most
profile_at zero few = profile_none
profile_at (suc zero) few = profile_one
profile_at (suc (suc zero)) few = profile_two
profile_at (suc (suc (suc zero))) few = profile_three
profile_at (suc (suc (suc (suc zero)))) few = profile_four
profile_at (suc (suc (suc (suc (suc zero))))) few = profile_five
profile_at (suc (suc (suc (suc (suc (suc zero)))))) few = profile_six
profile_at (suc (suc (suc (suc (suc (suc (suc most))))))) few = absurd (omega arith)

pub profile_take : {values : List ℤ} {last : List ℕ} (level : ℕ) (t : List ℕ) → level < 256 → Follows sps_form values last → length fresh ≡ length t
    → slice_index t sps.sps_max_sublayers_minus1 ≡ number (items_along sps_form values) sps.sps_max_sublayers_minus1
    → Takes (sections_form profile t) (profile_items (items_along sps_form values) level)
unfolding fresh has_value knows_formula knows_width knows_range knows_presence hides_counter hides_row behind_field within_block depends behind_rows table_depends behind_table comes_always shows_row row_below code_below range_below profile_list
profile_take {values} level t small follows size most =
    let source : List Item = items_along sps_form values in
    let number_of : ℕ → ℕ = λ of. number source of in
    takes_at (sps.sps_max_sublayers_minus1 ∷ []) profile (slice_set fresh sps.sps_max_sublayers_minus1 (number_of sps.sps_max_sublayers_minus1)) t refl refl
    (agree_given (sps.sps_max_sublayers_minus1 ∷ []) (one_long sps.sps_max_sublayers_minus1 (number_of sps.sps_max_sublayers_minus1) t size) (sym most, tt))
    (profile_at (number_of sps.sps_max_sublayers_minus1) (below sps.sps_max_sublayers_minus1 7 (omega arith) refl follows) (number_of ptl.general_profile_idc) (number_of ptl.general_tier_flag) level (number_of ptl.ptl_frame_only_constraint_flag) (number_of ptl.ptl_multilayer_enabled_flag)
    (below ptl.general_profile_idc 128 (omega arith) refl follows) (below ptl.general_tier_flag 2 (omega arith) refl follows) small
    (below ptl.ptl_frame_only_constraint_flag 2 (omega arith) refl follows) (below ptl.ptl_multilayer_enabled_flag 2 (omega arith) refl follows))
