-- What is known goes along a picture header; which of its fields are shown and kept.
use Rattle.std.proofs.Common.{◌++◌, ◌≡◌, ℕ, true, List, refl}
use Rattle.vx_table.specs.declared.rows.Term.TheVariants.{Latest}
use Rattle.vx_table.specs.declared.rows.Formula.TheVariants.{Plain}
use Rattle.vx_table.specs.declared.rows.Presence.TheVariants.{When}
use Rattle.vx_table.specs.Scope.{fresh}
use Rattle.vx_table.specs.Forms.{has_value, ◌>>=◌}
use Rattle.vx_table.specs.Parts.{sections_form}
use Rattle.vx_table.specs.Depends.{Carries}
use Rattle.vx_table.specs.Claims.{knows_formula, knows_width, knows_range, knows_presence, hides_counter, hides_row, behind_field, within_block, depends, behind_rows, table_depends, behind_table, comes_always, sections_chain, behind_sections}
use Rattle.vx_table.proofs.Chains.{sections_carry, carries_together, carries_present, chains_depend}
use Rattle.vx_fields.specs.declared.pps.TheConstants.{pps_rpl_info_in_ph_flag}
use Rattle.vx_fields.specs.declared.names.ph.TheConstants.{HAS_WEIGHTS}
use Rattle.vx_rpl.specs.declared.entry.RplTable.{RplTable}
use Rattle.vx_rpl.specs.Lists.{lists_form, weights, weights_form}
use Rattle.vx_rpl.specs.Depends.{list_chains, known_behind_list, first_chains, behind_first, second_chains, known_behind_second, lists_chain, behind_lists}
use Rattle.vx_rpl.proofs.Carrying.{lists_carry}
use Rattle.vx_ph.specs.Header.{ph_before_lists, lists_if_present, middle, weights_if_present, back, ph_before_weights, header_form}
use Rattle.vx_ph.specs.Depends.{of_header, kept_with_names, kept_of_sets, all_of_sets, KeptDepend, AllDepend}

-- Along a header it goes where the tests of its parts hold; a, b, c are what is known before it, before the lists and before the weights.
pub header_carries : (table : RplTable) (shown a b c : List ℕ) → sections_chain shown a ph_before_lists ≡ true → behind_sections shown a ph_before_lists ≡ b
    → knows_formula b (Plain (Latest pps_rpl_info_in_ph_flag)) ≡ true → lists_chain shown b ≡ true
    → sections_chain shown b middle ≡ true → behind_sections shown b middle ≡ c
    → knows_formula c (Plain (Latest HAS_WEIGHTS)) ≡ true → sections_chain shown c weights ≡ true
    → sections_chain shown c back ≡ true → Carries shown a (behind_sections shown c back) (header_form table)
unfolding header_form ph_before_weights knows_presence within_block
header_carries table shown a b c at_front b_is knows_lists at_lists at_middle c_is knows_weights at_weights at_back =
    let first = rw b_is at (sections_carry shown a ph_before_lists at_front) in
    let lists = carries_present shown b (behind_lists shown b) (When (Plain (Latest pps_rpl_info_in_ph_flag))) (lists_form table) knows_lists (lists_carry table shown b at_lists) in
    let between = rw c_is at (sections_carry shown b middle at_middle) in
    let weighted = carries_present shown c (behind_sections shown c weights) (When (Plain (Latest HAS_WEIGHTS))) weights_form knows_weights (sections_carry shown c weights at_weights) in
    carries_together shown a c (behind_sections shown c back) (λ s. ph_before_weights table s >>= weights_if_present) (sections_form back)
    (carries_together shown a c c (ph_before_weights table) weights_if_present
    (carries_together shown a b c (λ s. sections_form ph_before_lists s >>= lists_if_present table) (sections_form middle)
    (carries_together shown a b b (sections_form ph_before_lists) (lists_if_present table) first lists) between)
    weighted)
    (sections_carry shown c back at_back)

pub all_depend : AllDepend
unfolding fresh has_value knows_formula knows_width knows_range knows_presence hides_counter hides_row behind_field within_block depends behind_rows table_depends behind_table comes_always list_chains known_behind_list first_chains behind_first second_chains known_behind_second lists_chain behind_lists
all_depend table = chains_depend all_of_sets of_header _ (header_form table)
    (header_carries table (all_of_sets ++ of_header) all_of_sets _ _ refl refl refl refl refl refl refl refl refl)

pub kept_depend : KeptDepend
unfolding fresh has_value knows_formula knows_width knows_range knows_presence hides_counter hides_row behind_field within_block depends behind_rows table_depends behind_table comes_always list_chains known_behind_list first_chains behind_first second_chains known_behind_second lists_chain behind_lists
kept_depend table = chains_depend kept_of_sets kept_with_names _ (header_form table)
    (header_carries table (kept_of_sets ++ kept_with_names) kept_of_sets _ _ refl refl refl refl refl refl refl refl refl)
