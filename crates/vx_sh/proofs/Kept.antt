-- The tests of what slice headers depend on, and of which fields they keep.
use Rattle.std.proofs.Common.{◌++◌, List, ℕ, IsTrue, refl}
use Rattle.vx_table.specs.Scope.{fresh}
use Rattle.vx_table.specs.Forms.{has_value}
use Rattle.vx_table.specs.Kept.{stands_for_field}
use Rattle.vx_table.specs.Depends.{has}
use Rattle.vx_table.specs.Claims.{knows_formula, knows_width, knows_range, knows_presence, hides_counter, hides_row, behind_field, within_block, depends, table_depends, behind_rows, behind_table, comes_always}
use Rattle.vx_table.specs.Shown.{IsKeptWhereShown, star_tells}
use Rattle.vx_table.specs.laws.Again.{shows_row}
use Rattle.vx_table.proofs.Again.{tables_show, sections_show}
use Rattle.vx_table.proofs.Chains.{chains_depend}
use Rattle.vx_table.proofs.Starred.{table_keeps_only, structure_keeps_only}
use Rattle.vx_rpl.specs.Lists.{weights}
use Rattle.vx_rpl.specs.Depends.{list_chains, known_behind_list, first_chains, behind_first, second_chains, known_behind_second, lists_chain, behind_lists}
use Rattle.vx_rpl.proofs.Carrying.{lists_carry}
use Rattle.vx_rpl.proofs.Passing.{lists_show, lists_keep}
use Rattle.vx_sh.specs.declared.tables.TheConstants.{ADDRESS}
use Rattle.vx_sh.specs.Slice.{before_lists, between, behind_weights, rest_form}
use Rattle.vx_sh.specs.Depends.{kept_given, kept_fields, kept_with_names, all_given, all_fields, KeptDepend, AllDepend, AllAreShown, KeptAreShown}
use Rattle.vx_sh.proofs.Depending.{rest_carries, rest_each}

pub kept_depend : KeptDepend
unfolding fresh has_value knows_formula knows_width knows_range knows_presence hides_counter hides_row behind_field within_block depends table_depends behind_rows behind_table comes_always list_chains known_behind_list first_chains behind_first second_chains known_behind_second lists_chain behind_lists
kept_depend table points =
    let kept : List ℕ = kept_given ++ kept_with_names in
    chains_depend kept_given kept_with_names _ (rest_form table points)
    (rest_carries table points kept kept_given _ _ _ _ _ _ refl refl refl refl refl refl refl (lists_carry table kept _ refl) refl refl refl refl refl refl)

pub all_depend : AllDepend
unfolding fresh has_value knows_formula knows_width knows_range knows_presence hides_counter hides_row behind_field within_block depends table_depends behind_rows behind_table comes_always list_chains known_behind_list first_chains behind_first second_chains known_behind_second lists_chain behind_lists
all_depend table points =
    let all : List ℕ = all_given ++ all_fields in
    chains_depend all_given all_fields _ (rest_form table points)
    (rest_carries table points all all_given _ _ _ _ _ _ refl refl refl refl refl refl refl (lists_carry table all _ refl) refl refl refl refl refl refl)

pub all_are_shown : AllAreShown
unfolding fresh shows_row
all_are_shown table points =
    let all : List ℕ = all_given ++ all_fields in
    record {
      at = rest_each (λ cell. IsTrue (has all cell.field)) table points (tables_show all ADDRESS refl).at (sections_show all before_lists refl).at (lists_show table all refl).at (sections_show all between refl).at (sections_show all weights refl).at
          (sections_show all behind_weights refl).at;
    }

pub kept_are_shown : KeptAreShown
unfolding fresh star_tells stands_for_field
kept_are_shown table points =
    let kept : List ℕ = kept_given ++ kept_fields in
    record {
      keeps = rest_each (IsKeptWhereShown kept) table points (table_keeps_only kept_given kept_fields ADDRESS refl).keeps (structure_keeps_only kept_given kept_fields before_lists refl).keeps
          (λ s. lists_keep table kept s refl) (structure_keeps_only kept_given kept_fields between refl).keeps (structure_keeps_only kept_given kept_fields weights refl).keeps
          (structure_keeps_only kept_given kept_fields behind_weights refl).keeps;
    }
