-- What a header hasn't where the SPS doesn't enable it.
use Rattle.std.proofs.Common.{◌≡◌, ℕ, ◌<◌, ◌≤◌, ◌==◌, true, false, IsTrue, List, [], ◌∷◌, length, take, drop, slice_index, slice_set, refl, ap, sym, subst, ◌∙◌, inl, inr, arith}
use Rattle.std.proofs.lemmas.Bool.{both_ways, cases_eq, ne_eqb}
use Rattle.std.proofs.lemmas.List.Elements.{All-cons, All-nil}
use Rattle.vx_bits.specs.declared.list.Item.{Item}
use Rattle.vx_table.specs.declared.rows.Formula.{Formula}
use Rattle.vx_table.specs.declared.rows.Formula.TheVariants.{Both, Plain}
use Rattle.vx_table.specs.declared.rows.Term.TheVariants.{Latest, Number}
use Rattle.vx_table.specs.declared.rows.Presence.{Presence}
use Rattle.vx_table.specs.declared.rows.Presence.TheVariants.{When}
use Rattle.vx_table.specs.declared.rows.Row.{Row}
use Rattle.vx_table.specs.declared.rows.Row.TheVariants.{Block, Name}
use Rattle.vx_table.specs.laws.Absence.{AreZero, AreHidden, IsAbsent, is_zero, never_comes, rows_hide, table_hides}
use Rattle.vx_table.specs.Claims.{hides, hides_counter, hides_row, sections_hide}
use Rattle.vx_table.specs.Depends.{has, Leaves}
use Rattle.vx_table.specs.Forms.{Form, done, ◌>>=◌, form_of, present}
use Rattle.vx_table.specs.Loaded.{number}
use Rattle.vx_table.specs.Parts.{Section, always, section_form, sections_form}
use Rattle.vx_table.specs.Scope.{fresh, is_set, value}
use Rattle.vx_table.specs.Shown.{shown_items}
use Rattle.vx_table.proofs.Absence.{hidden_have_no_items, hidden_present, hidden_together, left_hide, sets_hide, tables_hide}
use Rattle.vx_table.proofs.Blocks.{form-block-whole, form-name}
use Rattle.vx_table.proofs.Loading.{number_of_none, number_of_shown}
use Rattle.vx_table.proofs.Rewrites.{leaves_present, sections_leave, tables_leave}
use Rattle.vx_fields.specs.declared.alf.TheConstants as alf
use Rattle.vx_fields.specs.declared.ph.TheConstants as ph
use Rattle.vx_fields.specs.declared.pps.TheConstants.{pps_alf_info_in_ph_flag, pps_pic_parameter_set_id, pps_rpl_info_in_ph_flag}
use Rattle.vx_fields.specs.declared.rpl.TheConstants.{ltrp_in_header_flag, num_ref_entries}
use Rattle.vx_fields.specs.declared.sps.TheConstants as sps_fields
use Rattle.vx_fields.specs.declared.names.ph.TheConstants.{HAS_WEIGHTS}
use Rattle.vx_fields.specs.declared.names.rpl.TheConstants.{IS_LIST_0, LONG_ENTRIES, NUM_STRUCTURES}
use Rattle.vx_rpl.specs.declared.entry.RplTable.{RplTable}
use Rattle.vx_rpl.specs.Lists.{lists_form, weights, weights_form}
use Rattle.vx_rpl.specs.Depends.{has_none, lists_hide}
use Rattle.vx_rpl.proofs.Passing.{lists_leave}
use Rattle.vx_pps.proofs.Fields.{named}
use Rattle.vx_ph.specs.declared.header.PictureHeader.{PictureHeader}
use Rattle.vx_ph.specs.declared.tables.TheConstants.{ALF, LMCS_AND_SCALING, ORDER_COUNT, OUTPUT, PICTURE, PPS_ID}
use Rattle.vx_ph.specs.laws.Enabled.{NoLmcs, NoScaling, NoChromaScaling, NoFilter}
use Rattle.vx_ph.specs.Header.{back, ph_before_weights, ph_before_lists, header_form, lists_if_present, middle, weights_if_present}
use Rattle.vx_ph.specs.InForce.{in_force, structures}
use Rattle.vx_ph.specs.Picture.{IsHeader}
use Rattle.vx_ph.proofs.Rewriting.{filter_section}
use Rattle.vx_ph.proofs.Sets.{of_sps}

-- ---- rows and tables

-- parts that leave both the names and the numbers alone
left_table : (names zeros : List ℕ) (holds : Formula) (rows : List Row) → hides names rows ≡ true → hides zeros rows ≡ true → AreHidden names zeros (present (When holds) (form_of rows))
left_table names zeros holds rows named left =
    left_hide names zeros (present (When holds) (form_of rows)) (leaves_present names holds (form_of rows) (tables_leave names rows named)) (leaves_present zeros holds (form_of rows) (tables_leave zeros rows left))

left_rows : (names zeros : List ℕ) (rows : List Row) → hides names rows ≡ true → hides zeros rows ≡ true → AreHidden names zeros (form_of rows)
left_rows names zeros rows named left = left_hide names zeros (form_of rows) (tables_leave names rows named) (tables_leave zeros rows left)

left_sections : (names zeros : List ℕ) (sections : List Section) → sections_hide names sections ≡ true → sections_hide zeros sections ≡ true → AreHidden names zeros (sections_form sections)
left_sections names zeros sections named left = left_hide names zeros (sections_form sections) (sections_leave names sections named) (sections_leave zeros sections left)

-- what stands under a flag that is 0
under_flag : (names zeros : List ℕ) (flag : ℕ) (form : List ℕ → Form (List ℕ)) → has zeros flag ≡ true → AreHidden names zeros (present (When (Plain (Latest flag))) form)
unfolding present value
under_flag names zeros flag form there = record { at = λ s are. let none = are.at flag there in rw none are }

-- a name that takes a number, a field, and a block, before more rows
name_first : (names zeros : List ℕ) (name : ℕ) (formula : Formula) (rows : List Row) → has zeros name ≡ false → AreHidden names zeros (form_of rows) → AreHidden names zeros (form_of (Name name formula ∷ rows))
name_first names zeros name formula rows other more = record {
  at = λ s are. subst (IsAbsent names (AreZero zeros)) (sym (form-name name formula rows s))
      ((hidden_together names zeros (λ t. done (slice_set t name (value t formula))) (form_of rows) (sets_hide names zeros name (λ t. value t formula) other) more).at s are);
}

block_first : (names zeros : List ℕ) (presence : Presence) (n : ℕ) (rows : List Row) → n ≤ length rows → AreHidden names zeros (present presence (form_of (take n rows))) → AreHidden names zeros (form_of (drop n rows))
    → AreHidden names zeros (form_of (Block presence n ∷ rows))
block_first names zeros presence n rows fits block more = record {
  at = λ s are. subst (IsAbsent names (AreZero zeros)) (sym (form-block-whole presence n rows s fits))
      ((hidden_together names zeros (present presence (form_of (take n rows))) (form_of (drop n rows)) block more).at s are);
}

section_first : (names zeros : List ℕ) (section : Section) (more : List Section) → AreHidden names zeros (section_form section) → AreHidden names zeros (sections_form more) → AreHidden names zeros (sections_form (section ∷ more))
unfolding sections_form
section_first names zeros section more first rest = hidden_together names zeros (section_form section) (sections_form more) first rest

-- ---- a header

-- names that stand in no part beside the filter, LMCS and scaling lists
record IsElsewhere (names : List ℕ) : Type 0 where
  picture : hides names PICTURE ≡ true
  id : hides names PPS_ID ≡ true
  count : hides names ORDER_COUNT ≡ true
  output : hides names OUTPUT ≡ true
  middle : sections_hide names middle ≡ true
  back : sections_hide names back ≡ true
  lists : (table : RplTable) → Leaves names (lists_form table)
  weights : Leaves names weights_form

header_hides : (names zeros : List ℕ) (table : RplTable) → IsElsewhere names → IsElsewhere zeros → AreHidden names zeros (section_form filter_section)
    → AreHidden names zeros (section_form (always LMCS_AND_SCALING)) → AreHidden names zeros (header_form table)
unfolding header_form ph_before_weights
header_hides names zeros table named left filter maps =
    let one : Formula = Plain (Number 1) in
    let lists : AreHidden names zeros (lists_if_present table) = left_hide names zeros (lists_if_present table)
    (leaves_present names (Plain (Latest pps_rpl_info_in_ph_flag)) (lists_form table) (named.lists table)) (leaves_present zeros (Plain (Latest pps_rpl_info_in_ph_flag)) (lists_form table) (left.lists table)) in
    let weighted : AreHidden names zeros weights_if_present = left_hide names zeros weights_if_present
    (leaves_present names (Plain (Latest HAS_WEIGHTS)) weights_form named.weights) (leaves_present zeros (Plain (Latest HAS_WEIGHTS)) weights_form left.weights) in
    let output = section_first names zeros (always OUTPUT) [] (left_table names zeros one OUTPUT named.output left.output) (left_sections names zeros [] refl refl) in
    let behind = section_first names zeros filter_section (always LMCS_AND_SCALING ∷ always OUTPUT ∷ []) filter (section_first names zeros (always LMCS_AND_SCALING) (always OUTPUT ∷ []) maps output) in
    let at_front : AreHidden names zeros (sections_form ph_before_lists) =
    section_first names zeros (always PICTURE) (drop 1 ph_before_lists) (left_table names zeros one PICTURE named.picture left.picture)
    (section_first names zeros (always PPS_ID) (drop 2 ph_before_lists) (left_table names zeros one PPS_ID named.id left.id)
    (section_first names zeros (always ORDER_COUNT) (drop 3 ph_before_lists) (left_table names zeros one ORDER_COUNT named.count left.count) behind)) in
    hidden_together names zeros (λ s. ph_before_weights table s >>= weights_if_present) (sections_form back)
    (hidden_together names zeros (ph_before_weights table) weights_if_present
    (hidden_together names zeros (λ s. sections_form ph_before_lists s >>= lists_if_present table) (sections_form middle)
    (hidden_together names zeros (sections_form ph_before_lists) (lists_if_present table) at_front lists)
    (left_sections names zeros middle named.middle left.middle)) weighted)
    (left_sections names zeros back named.back left.back)

-- one field or name alone
abbrev pub only : ℕ → List ℕ
only n = n ∷ []

-- a flag that isn't set, which the scope has
pub zero_alone : (flag : ℕ) (s : List ℕ) (k : ℕ) → slice_index s flag ≡ k → is_set k ≡ false → AreZero (only flag) s
zero_alone flag s k is off =
    let P : ℕ → Type 0 = λ n. slice_index s n ≡ 0 in
    let none : k ≡ 0 = elim (cases_eq k 0) [
      | inl zero_is ↦ zero_is
      | inr some ↦ absurd (both_ways _ off (rw (ne_eqb k 0 some) refl))
    ] in
    record { at = λ n there. named P (flag ∷ []) n (All-cons P flag [] (is ∙ none) (All-nil P)) there }

-- no item of such a field
none_shown : (names : List ℕ) (flag : ℕ) (sps pps : List Item) (header : PictureHeader) → AreHidden names (only flag) (header_form (structures sps)) → flag < pps_pic_parameter_set_id
    → IsHeader (structures sps) (in_force sps pps) header → is_set (number sps flag) ≡ false → shown_items names header.fields ≡ []
none_shown names flag sps pps header hidden low is off =
    let f = is.fields in
    ap (shown_items names) f.all ∙ (hidden_have_no_items names (only flag) (header_form (structures sps)) (in_force sps pps) f.values f.end hidden (zero_alone flag (in_force sps pps) (number sps flag) (of_sps sps pps flag low) off) f.follows).0

is_off : (field flag : ℕ) (sps pps : List Item) (header : PictureHeader) → IsTrue (has (only field) field) → AreHidden (only field) (only flag) (header_form (structures sps)) → flag < pps_pic_parameter_set_id
    → IsHeader (structures sps) (in_force sps pps) header → is_set (number sps flag) ≡ false → number header.fields field ≡ 0
is_off field flag sps pps header there hidden low is off =
    number_of_shown (only field) field header.fields there
    ∙ ap (λ items. number items field) (none_shown (only field) flag sps pps header hidden low is off)
    ∙ number_of_none field [] (All-nil (λ item. (item.field == field) ≡ false))

-- ---- where each of them stands

elsewhere : (names : List ℕ) → hides names PICTURE ≡ true → hides names PPS_ID ≡ true → hides names ORDER_COUNT ≡ true → hides names OUTPUT ≡ true → sections_hide names middle ≡ true → sections_hide names back ≡ true
    → lists_hide names ≡ true → has_none names (IS_LIST_0 ∷ NUM_STRUCTURES ∷ num_ref_entries ∷ ltrp_in_header_flag ∷ LONG_ENTRIES ∷ []) ≡ true → sections_hide names weights ≡ true → IsElsewhere names
elsewhere names a b c d e f g h i =
    record { picture = a; id = b; count = c; output = d; middle = e; back = f; lists = λ table. lists_leave table names g h; weights = sections_leave names weights i }

lmcs_off : (table : RplTable) → AreHidden (only ph.ph_lmcs_enabled_flag) (only sps_fields.sps_lmcs_enabled_flag) (header_form table)
unfolding fresh hides_counter hides_row
lmcs_off table =
    let names = only ph.ph_lmcs_enabled_flag in
    let zeros = only sps_fields.sps_lmcs_enabled_flag in
    header_hides names zeros table (elsewhere names refl refl refl refl refl refl refl refl refl) (elsewhere zeros refl refl refl refl refl refl refl refl refl)
    (left_table names zeros (Both (Latest sps_fields.sps_alf_enabled_flag) (Latest pps_alf_info_in_ph_flag)) ALF refl refl)
    (hidden_present names zeros (When (Plain (Number 1))) (form_of LMCS_AND_SCALING) refl
    (name_first names zeros ph.ph_lmcs_enabled_flag (Plain (Number 0)) (drop 1 LMCS_AND_SCALING) refl
    (block_first names zeros (When (Plain (Latest sps_fields.sps_lmcs_enabled_flag))) 1 (drop 2 LMCS_AND_SCALING) (omega arith)
    (under_flag names zeros sps_fields.sps_lmcs_enabled_flag (form_of (take 1 (drop 2 LMCS_AND_SCALING))) refl)
    (left_rows names zeros (drop 3 LMCS_AND_SCALING) refl refl))))

scaling_off : (table : RplTable) → AreHidden (only ph.ph_explicit_scaling_list_enabled_flag) (only sps_fields.sps_explicit_scaling_list_enabled_flag) (header_form table)
unfolding fresh hides_counter hides_row
scaling_off table =
    let names = only ph.ph_explicit_scaling_list_enabled_flag in
    let zeros = only sps_fields.sps_explicit_scaling_list_enabled_flag in
    header_hides names zeros table (elsewhere names refl refl refl refl refl refl refl refl refl) (elsewhere zeros refl refl refl refl refl refl refl refl refl)
    (left_table names zeros (Both (Latest sps_fields.sps_alf_enabled_flag) (Latest pps_alf_info_in_ph_flag)) ALF refl refl)
    (hidden_present names zeros (When (Plain (Number 1))) (form_of LMCS_AND_SCALING) refl
    (name_first names zeros ph.ph_lmcs_enabled_flag (Plain (Number 0)) (drop 1 LMCS_AND_SCALING) refl
    (block_first names zeros (When (Plain (Latest sps_fields.sps_lmcs_enabled_flag))) 1 (drop 2 LMCS_AND_SCALING) (omega arith)
    (left_table names zeros (Plain (Latest sps_fields.sps_lmcs_enabled_flag)) (take 1 (drop 2 LMCS_AND_SCALING)) refl refl)
    (block_first names zeros (When (Plain (Latest ph.ph_lmcs_enabled_flag))) 3 (drop 4 LMCS_AND_SCALING) (omega arith)
    (left_table names zeros (Plain (Latest ph.ph_lmcs_enabled_flag)) (take 3 (drop 4 LMCS_AND_SCALING)) refl refl)
    (name_first names zeros ph.ph_explicit_scaling_list_enabled_flag (Plain (Number 0)) (drop 8 LMCS_AND_SCALING) refl
    (block_first names zeros (When (Plain (Latest sps_fields.sps_explicit_scaling_list_enabled_flag))) 1 (drop 9 LMCS_AND_SCALING) (omega arith)
    (under_flag names zeros sps_fields.sps_explicit_scaling_list_enabled_flag (form_of (take 1 (drop 9 LMCS_AND_SCALING))) refl)
    (left_rows names zeros (drop 10 LMCS_AND_SCALING) refl refl)))))))

chroma_off : (table : RplTable) → AreHidden (only ph.ph_chroma_residual_scale_flag) (only sps_fields.sps_chroma_format_idc) (header_form table)
unfolding fresh hides_counter hides_row is_zero never_comes rows_hide table_hides
chroma_off table =
    let names = only ph.ph_chroma_residual_scale_flag in
    let zeros = only sps_fields.sps_chroma_format_idc in
    header_hides names zeros table (elsewhere names refl refl refl refl refl refl refl refl refl) (elsewhere zeros refl refl refl refl refl refl refl refl refl)
    (left_table names zeros (Both (Latest sps_fields.sps_alf_enabled_flag) (Latest pps_alf_info_in_ph_flag)) ALF refl refl)
    (hidden_present names zeros (When (Plain (Number 1))) (form_of LMCS_AND_SCALING) refl
    (name_first names zeros ph.ph_lmcs_enabled_flag (Plain (Number 0)) (drop 1 LMCS_AND_SCALING) refl
    (block_first names zeros (When (Plain (Latest sps_fields.sps_lmcs_enabled_flag))) 1 (drop 2 LMCS_AND_SCALING) (omega arith)
    (left_table names zeros (Plain (Latest sps_fields.sps_lmcs_enabled_flag)) (take 1 (drop 2 LMCS_AND_SCALING)) refl refl)
    (block_first names zeros (When (Plain (Latest ph.ph_lmcs_enabled_flag))) 3 (drop 4 LMCS_AND_SCALING) (omega arith)
    (hidden_present names zeros (When (Plain (Latest ph.ph_lmcs_enabled_flag))) (form_of (take 3 (drop 4 LMCS_AND_SCALING))) refl
    (tables_hide names zeros (take 3 (drop 4 LMCS_AND_SCALING)) refl))
    (left_rows names zeros (drop 7 LMCS_AND_SCALING) refl refl)))))

filter_off : (table : RplTable) → AreHidden alf.ALL (only sps_fields.sps_alf_enabled_flag) (header_form table)
unfolding fresh hides_counter hides_row present value
filter_off table =
    let names = alf.ALL in
    let zeros = only sps_fields.sps_alf_enabled_flag in
    header_hides names zeros table (elsewhere names refl refl refl refl refl refl refl refl refl) (elsewhere zeros refl refl refl refl refl refl refl refl refl)
    record { at = λ s are. let none = are.at sps_fields.sps_alf_enabled_flag refl in rw none are }
    (left_table names zeros (Plain (Number 1)) LMCS_AND_SCALING refl refl)

-- ---- the laws

pub no_lmcs : NoLmcs
unfolding fresh
no_lmcs sps pps header is off = is_off ph.ph_lmcs_enabled_flag sps_fields.sps_lmcs_enabled_flag sps pps header refl (lmcs_off (structures sps)) (omega arith) is off

pub no_scaling : NoScaling
unfolding fresh
no_scaling sps pps header is off =
    is_off ph.ph_explicit_scaling_list_enabled_flag sps_fields.sps_explicit_scaling_list_enabled_flag sps pps header refl (scaling_off (structures sps)) (omega arith) is off

pub no_chroma_scaling : NoChromaScaling
unfolding fresh
no_chroma_scaling sps pps header is off = is_off ph.ph_chroma_residual_scale_flag sps_fields.sps_chroma_format_idc sps pps header refl (chroma_off (structures sps)) (omega arith) is off

pub no_filter : NoFilter
no_filter sps pps header is off = none_shown alf.ALL sps_fields.sps_alf_enabled_flag sps pps header (filter_off (structures sps)) (omega arith) is off
