-- What tests over the tables of lists say of each field, and of names that lists leave alone.
use Rattle.std.proofs.Common.{◌≡◌, ℕ, Bool, true, false, cond, ◌&&◌, not, ◌==◌, IsFalse, List, length, slice_index, slice_set, slice_get, None, Some, [], ◌∷◌}
use Rattle.std.specs.Prelude.{Option}
use Rattle.std.proofs.lemmas.Bool.{and_parts, not-true}
use Rattle.vx_table.specs.declared.rows.Formula.{Formula}
use Rattle.vx_table.specs.declared.rows.Cell.{Cell}
use Rattle.vx_table.specs.declared.rows.Row.{Row}
use Rattle.vx_table.specs.declared.rows.Row.TheVariants.{Field}
use Rattle.vx_table.specs.Scope.{one_if}
use Rattle.vx_table.specs.Forms.{done, ◌>>=◌, cell_at, form_of}
use Rattle.vx_table.specs.Parts.{sections_form}
use Rattle.vx_table.specs.EachField.{EachField, rows_pass, sections_pass}
use Rattle.vx_table.specs.Depends.{has, Agree, Leaves}
use Rattle.vx_table.specs.Claims.{hides, sections_hide}
use Rattle.vx_table.specs.Shown.{IsKeptWhereShown, star_tells}
use Rattle.vx_table.specs.laws.Again.{shows_row}
use Rattle.vx_table.proofs.EachField.{each_then, each_of_rows, each_of_sections}
use Rattle.vx_table.proofs.Starred.{starred}
use Rattle.vx_table.proofs.Agreeing.{agree_itself, agree_on, agree_outside}
use Rattle.vx_table.proofs.Rewrites.{tables_leave, sections_leave, leaves_together}
use Rattle.vx_fields.specs.declared.names.rpl.TheConstants.{NUM_STRUCTURES, IS_LIST_0, LONG_ENTRIES}
use Rattle.vx_fields.specs.declared.rpl.TheConstants.{num_ref_entries, ltrp_in_header_flag, rpl_sps_flag, rpl_idx}
use Rattle.vx_rpl.specs.declared.entry.Structure.{Structure}
use Rattle.vx_rpl.specs.declared.entry.RplTable.{RplTable}
use Rattle.vx_rpl.specs.declared.tables.TheConstants.{BEFORE_LIST_0, CHOICE, BEHIND_LIST_0, BEHIND_LIST_1}
use Rattle.vx_rpl.specs.Lists.{behind_structure, picked, begun, own_and_long_term, choice_form, chosen_form, list_form, first_form, second_form, lists_form}
use Rattle.vx_rpl.specs.Depends.{lists_pass, has_none, ListsShow, ListsKeep, ListsLeave}

-- ---- each field

-- the parts of a test
record Parts (a b c d e : Bool) : Type 0 where
  before : a ≡ true
  choice : b ≡ true
  own : c ≡ true
  behind_0 : d ≡ true
  behind_1 : e ≡ true

parts : (a b c d e : Bool) → (a && (b && (c && (d && e)))) ≡ true → Parts a b c d e
parts a b c d e h =
    let p = and_parts a (b && (c && (d && e))) h in
    let q = and_parts b (c && (d && e)) p.1 in
    let r = and_parts c (d && e) q.1 in
    let s = and_parts d e r.1 in
    record { before = p.0; choice = q.0; own = r.0; behind_0 = s.0; behind_1 = s.1 }

list_each : (P : Cell ℕ → Type 0) (test : Row → Bool) (sound : (c : Cell Formula) (s : List ℕ) → test (Field c) ≡ true → P (cell_at s c)) (is_list_0 : Bool) (structures : List Structure) (s : List ℕ)
    → rows_pass test CHOICE ≡ true → sections_pass test own_and_long_term ≡ true → EachField P (list_form is_list_0 structures s)
unfolding list_form choice_form chosen_form
list_each P test sound is_list_0 structures s choice own =
    each_then P (form_of CHOICE (begun is_list_0 structures s)) (chosen_form structures) (each_of_rows P test sound CHOICE (begun is_list_0 structures s) choice)
    (λ t. each_of_sections P test sound own_and_long_term (picked structures t) own)

-- A fact that a test of rows says of their fields holds of each field of the lists.
pub lists_each : (P : Cell ℕ → Type 0) (test : Row → Bool) (sound : (c : Cell Formula) (s : List ℕ) → test (Field c) ≡ true → P (cell_at s c)) (table : RplTable) (s : List ℕ)
    → lists_pass test ≡ true → EachField P (lists_form table s)
unfolding lists_form first_form second_form
lists_each P test sound table s h =
    let p = parts (rows_pass test BEFORE_LIST_0) (rows_pass test CHOICE) (sections_pass test own_and_long_term) (rows_pass test BEHIND_LIST_0) (rows_pass test BEHIND_LIST_1) h in
    let first : (t : List ℕ) → EachField P (first_form table.first t) = λ t.
    each_then P (form_of BEFORE_LIST_0 t >>= list_form true table.first) (form_of BEHIND_LIST_0)
    (each_then P (form_of BEFORE_LIST_0 t) (list_form true table.first) (each_of_rows P test sound BEFORE_LIST_0 t p.before) (λ u. list_each P test sound true table.first u p.choice p.own))
    (λ u. each_of_rows P test sound BEHIND_LIST_0 u p.behind_0) in
    let second : (t : List ℕ) → EachField P (second_form table.second t) = λ t.
    each_then P (list_form false table.second t) (form_of BEHIND_LIST_1) (list_each P test sound false table.second t p.choice p.own) (λ u. each_of_rows P test sound BEHIND_LIST_1 u p.behind_1) in
    each_then P (first_form table.first s) (second_form table.second) (first s) second

pub lists_show : ListsShow
unfolding shows_row
lists_show table shown test = record { at = λ s. lists_each (λ cell. has shown cell.field ≡ true) (shows_row shown) (λ c t h. h) table s test }

pub lists_keep : ListsKeep
lists_keep table shown s test = lists_each (IsKeptWhereShown shown) (star_tells shown) (λ c t h. starred shown c t h) table s test

-- ---- names that are left alone

-- a step on the scope
step_leaves : (names : List ℕ) (step : List ℕ → List ℕ) → ((s : List ℕ) → Agree names s (step s)) → Leaves names (λ s. done (step s))
step_leaves names step keeps = record { at = keeps }

structure_leaves : (names s : List ℕ) (structure : Option Structure) → IsFalse (has names num_ref_entries) → IsFalse (has names ltrp_in_header_flag) → IsFalse (has names LONG_ENTRIES) → Agree names s (behind_structure structure s)
structure_leaves names s None entries in_header long = agree_itself names s
structure_leaves names s (Some structure) entries in_header long =
    let one = slice_set s num_ref_entries (length structure.entries) in
    let two = slice_set one ltrp_in_header_flag (one_if structure.in_header) in
    agree_on (agree_outside names s num_ref_entries _ entries) (agree_on (agree_outside names one ltrp_in_header_flag _ in_header) (agree_outside names two LONG_ENTRIES _ long))

picked_leaves : (names : List ℕ) (structures : List Structure) (s : List ℕ) → IsFalse (has names num_ref_entries) → IsFalse (has names ltrp_in_header_flag) → IsFalse (has names LONG_ENTRIES) → Agree names s (picked structures s)
unfolding picked
picked_leaves names structures s entries in_header long = elim (slice_index s rpl_sps_flag == 0) as (λ b. Agree names s (cond b s (behind_structure (slice_get structures (slice_index s rpl_idx)) s))) [
  | true ↦ agree_itself names s
  | false ↦ structure_leaves names s (slice_get structures (slice_index s rpl_idx)) entries in_header long
]

begun_leaves : (names : List ℕ) (is_list_0 : Bool) (structures : List Structure) (s : List ℕ) → IsFalse (has names IS_LIST_0) → IsFalse (has names NUM_STRUCTURES) → Agree names s (begun is_list_0 structures s)
unfolding begun
begun_leaves names is_list_0 structures s list_0 count =
    agree_on (agree_outside names s IS_LIST_0 (one_if is_list_0) list_0) (agree_outside names (slice_set s IS_LIST_0 (one_if is_list_0)) NUM_STRUCTURES (length structures) count)

-- the names that steps give a number aren't among them
record Outside (names : List ℕ) : Type 0 where
  list_0 : IsFalse (has names IS_LIST_0)
  count : IsFalse (has names NUM_STRUCTURES)
  entries : IsFalse (has names num_ref_entries)
  in_header : IsFalse (has names ltrp_in_header_flag)
  long : IsFalse (has names LONG_ENTRIES)

outside : (names : List ℕ) → has_none names (IS_LIST_0 ∷ NUM_STRUCTURES ∷ num_ref_entries ∷ ltrp_in_header_flag ∷ LONG_ENTRIES ∷ []) ≡ true → Outside names
outside names h =
    let p = parts (not (has names IS_LIST_0)) (not (has names NUM_STRUCTURES)) (not (has names num_ref_entries)) (not (has names ltrp_in_header_flag)) (not (has names LONG_ENTRIES) && true) h in
    record {
      list_0 = not-true (has names IS_LIST_0) p.before;
      count = not-true (has names NUM_STRUCTURES) p.choice;
      entries = not-true (has names num_ref_entries) p.own;
      in_header = not-true (has names ltrp_in_header_flag) p.behind_0;
      long = not-true (has names LONG_ENTRIES) (and_parts (not (has names LONG_ENTRIES)) true p.behind_1).0;
    }

list_leaves : (names : List ℕ) (is_list_0 : Bool) (structures : List Structure) → Outside names → hides names CHOICE ≡ true → sections_hide names own_and_long_term ≡ true → Leaves names (list_form is_list_0 structures)
unfolding list_form choice_form chosen_form
list_leaves names is_list_0 structures out choice own =
    leaves_together names (choice_form is_list_0 structures) (chosen_form structures)
    (leaves_together names (λ s. done (begun is_list_0 structures s)) (form_of CHOICE) (step_leaves names (begun is_list_0 structures) (λ s. begun_leaves names is_list_0 structures s out.list_0 out.count)) (tables_leave names CHOICE choice))
    (leaves_together names (λ s. done (picked structures s)) (sections_form own_and_long_term) (step_leaves names (picked structures) (λ s. picked_leaves names structures s out.entries out.in_header out.long)) (sections_leave names own_and_long_term own))

pub lists_leave : ListsLeave
unfolding lists_form first_form second_form
lists_leave table names h none =
    let p = parts (hides names BEFORE_LIST_0) (hides names CHOICE) (sections_hide names own_and_long_term) (hides names BEHIND_LIST_0) (hides names BEHIND_LIST_1) h in
    let out = outside names none in
    leaves_together names (first_form table.first) (second_form table.second)
    (leaves_together names (λ s. form_of BEFORE_LIST_0 s >>= list_form true table.first) (form_of BEHIND_LIST_0)
    (leaves_together names (form_of BEFORE_LIST_0) (list_form true table.first) (tables_leave names BEFORE_LIST_0 p.before) (list_leaves names true table.first out p.choice p.own)) (tables_leave names BEHIND_LIST_0 p.behind_0))
    (leaves_together names (list_form false table.second) (form_of BEHIND_LIST_1) (list_leaves names false table.second out p.choice p.own) (tables_leave names BEHIND_LIST_1 p.behind_1))
