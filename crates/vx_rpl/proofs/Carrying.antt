-- How what is known goes along the lists of a header.
use Rattle.std.proofs.Common.{◌≡◌, ℕ, Bool, true, false, cond, ◌&&◌, ◌==◌, List, length, slice_index, slice_set, slice_get, None, Some}
use Rattle.std.specs.Prelude.{Option, IsTrue}
use Rattle.std.proofs.lemmas.Bool.{and_parts}
use Rattle.vx_table.specs.Scope.{one_if}
use Rattle.vx_table.specs.Forms.{Form, done, ◌>>=◌, form_of}
use Rattle.vx_table.specs.Parts.{sections_form}
use Rattle.vx_table.specs.Depends.{has, Agree, Carries}
use Rattle.vx_table.specs.Claims.{grown, table_depends, behind_table, sections_chain}
use Rattle.vx_table.proofs.Agreeing.{agree_set}
use Rattle.vx_table.proofs.Chains.{table_carries, sections_carry, sets_carry, steps_carry, carries_together}
use Rattle.vx_fields.specs.declared.names.rpl.TheConstants.{NUM_STRUCTURES, IS_LIST_0, LONG_ENTRIES}
use Rattle.vx_fields.specs.declared.rpl.TheConstants.{num_ref_entries, ltrp_in_header_flag, rpl_sps_flag, rpl_idx}
use Rattle.vx_rpl.specs.declared.entry.Structure.{Structure}
use Rattle.vx_rpl.specs.declared.tables.TheConstants.{BEFORE_LIST_0, CHOICE, BEHIND_LIST_0, BEHIND_LIST_1}
use Rattle.vx_rpl.specs.Lists.{behind_structure, picked, begun, own_and_long_term, choice_form, chosen_form, list_form, first_form, second_form, lists_form}
use Rattle.vx_rpl.specs.Depends.{at_choice, at_structure, list_chains, known_behind_list, first_chains, behind_first, second_chains, known_behind_second, lists_chain, behind_lists, ListsCarry}

-- a name that both give the same number
pub set_keeps : (known s t : List ℕ) (n v : ℕ) → Agree known s t → Agree known (slice_set s n v) (slice_set t n v)
set_keeps known s t n v agree = agree_set n v (λ m other h. h) agree

structure_keeps : (known s t : List ℕ) (structure : Option Structure) → Agree known s t → Agree known (behind_structure structure s) (behind_structure structure t)
structure_keeps known s t None agree = agree
structure_keeps known s t (Some structure) agree =
    set_keeps known _ _ LONG_ENTRIES _ (set_keeps known _ _ ltrp_in_header_flag _ (set_keeps known s t num_ref_entries (length structure.entries) agree))

-- the structure that is taken, where it is known whether one is, and which
picked_keeps : (structures : List Structure) (known s t : List ℕ) → IsTrue (has known rpl_sps_flag) → IsTrue (has known rpl_idx) → Agree known s t → Agree known (picked structures s) (picked structures t)
unfolding picked
picked_keeps structures known s t flag index agree =
    rw (agree.same rpl_sps_flag flag, agree.same rpl_idx index) (
    elim (slice_index t rpl_sps_flag == 0) as (λ b. Agree known (cond b s (behind_structure (slice_get structures (slice_index t rpl_idx)) s)) (cond b t (behind_structure (slice_get structures (slice_index t rpl_idx)) t))) [
      | true ↦ agree
      | false ↦ structure_keeps known s t (slice_get structures (slice_index t rpl_idx)) agree
    ]
    )

choice_carries : (is_list_0 : Bool) (structures : List Structure) (shown known : List ℕ) → table_depends shown (at_choice shown known) CHOICE ≡ true
    → Carries shown known (at_structure shown known) (choice_form is_list_0 structures)
unfolding choice_form begun
choice_carries is_list_0 structures shown known test =
    let numbered : List ℕ → Form (List ℕ) = λ s. form_of CHOICE (slice_set s NUM_STRUCTURES (length structures)) in
    carries_together shown known (grown shown known IS_LIST_0) (at_structure shown known) (λ s. done (slice_set s IS_LIST_0 (one_if is_list_0))) numbered
    (sets_carry shown known IS_LIST_0 (one_if is_list_0))
    (carries_together shown (grown shown known IS_LIST_0) (at_choice shown known) (at_structure shown known) (λ s. done (slice_set s NUM_STRUCTURES (length structures))) (form_of CHOICE)
    (sets_carry shown (grown shown known IS_LIST_0) NUM_STRUCTURES (length structures)) (table_carries shown (at_choice shown known) CHOICE test))

list_carries : (is_list_0 : Bool) (structures : List Structure) (shown known : List ℕ) → list_chains shown known ≡ true → Carries shown known (known_behind_list shown known) (list_form is_list_0 structures)
unfolding list_form chosen_form list_chains known_behind_list
list_carries is_list_0 structures shown known test =
    let at : List ℕ = at_structure shown known in
    let first = and_parts (table_depends shown (at_choice shown known) CHOICE) ((has at rpl_sps_flag && has at rpl_idx) && sections_chain shown at own_and_long_term) test in
    let more = and_parts (has at rpl_sps_flag && has at rpl_idx) (sections_chain shown at own_and_long_term) first.1 in
    let known_both = and_parts (has at rpl_sps_flag) (has at rpl_idx) more.0 in
    carries_together shown known at (known_behind_list shown known) (choice_form is_list_0 structures) (chosen_form structures) (choice_carries is_list_0 structures shown known first.0)
    (carries_together shown at at (known_behind_list shown known) (λ s. done (picked structures s)) (sections_form own_and_long_term)
    (steps_carry shown at (picked structures) (λ s t agree. picked_keeps structures at s t known_both.0 known_both.1 agree))
    (sections_carry shown at own_and_long_term more.1))

first_carries : (structures : List Structure) (shown known : List ℕ) → first_chains shown known ≡ true → Carries shown known (behind_first shown known) (first_form structures)
unfolding first_form first_chains behind_first
first_carries structures shown known test =
    let before : List ℕ = behind_table shown known BEFORE_LIST_0 in
    let parts = and_parts (table_depends shown known BEFORE_LIST_0) (list_chains shown before && table_depends shown (known_behind_list shown before) BEHIND_LIST_0) test in
    let more = and_parts (list_chains shown before) (table_depends shown (known_behind_list shown before) BEHIND_LIST_0) parts.1 in
    carries_together shown known (known_behind_list shown before) (behind_first shown known) (λ s. form_of BEFORE_LIST_0 s >>= list_form true structures) (form_of BEHIND_LIST_0)
    (carries_together shown known before (known_behind_list shown before) (form_of BEFORE_LIST_0) (list_form true structures) (table_carries shown known BEFORE_LIST_0 parts.0) (list_carries true structures shown before more.0))
    (table_carries shown (known_behind_list shown before) BEHIND_LIST_0 more.1)

second_carries : (structures : List Structure) (shown known : List ℕ) → second_chains shown known ≡ true → Carries shown known (known_behind_second shown known) (second_form structures)
unfolding second_form second_chains known_behind_second
second_carries structures shown known test =
    let parts = and_parts (list_chains shown known) (table_depends shown (known_behind_list shown known) BEHIND_LIST_1) test in
    carries_together shown known (known_behind_list shown known) (known_behind_second shown known) (list_form false structures) (form_of BEHIND_LIST_1) (list_carries false structures shown known parts.0)
    (table_carries shown (known_behind_list shown known) BEHIND_LIST_1 parts.1)

pub lists_carry : ListsCarry
unfolding lists_form lists_chain behind_lists
lists_carry table shown known test =
    let parts = and_parts (first_chains shown known) (second_chains shown (behind_first shown known)) test in
    carries_together shown known (behind_first shown known) (behind_lists shown known) (first_form table.first) (second_form table.second) (first_carries table.first shown known parts.0)
    (second_carries table.second shown (behind_first shown known) parts.1)
