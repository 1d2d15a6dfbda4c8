-- What lists, structures and weights depend on and leave in the scope, and which items determine the lists. Our own. Laws of this
-- crate and of `vx_ph` rely on it.
use Rattle.std.specs.Prelude.{◌≡◌, ℕ, zero, suc, ◌+◌, Bool, true, ◌&&◌, not, IsTrue, List, [], ◌∷◌, ◌++◌}
use Rattle.vx_bits.specs.declared.list.Item.{Item}
use Rattle.vx_table.specs.declared.rows.Row.{Row}
use Rattle.vx_table.specs.EachField.{rows_pass, sections_pass}
use Rattle.vx_table.specs.Depends.{has, Agree, DependsOnlyOn, Carries, Leaves}
use Rattle.vx_table.specs.Claims.{hides, grown, table_depends, behind_table, sections_chain, behind_sections, sections_hide}
use Rattle.vx_table.specs.Named.{named_by, named_by_all, ReadsOnly, SectionsReadOnly, CodedOnce}
use Rattle.vx_table.specs.Shown.{shown_items, KeepsShown, star_tells}
use Rattle.vx_table.specs.laws.Again.{AlwaysShown, shows_row}
use Rattle.vx_fields.specs.declared.names.rpl.TheConstants.{NUM_STRUCTURES, STRUCTURE, IS_LIST_0, LONG_ENTRIES}
use Rattle.vx_fields.specs.declared.names.rpl.TheConstants.{ENTRIES_0, ENTRIES_1, ACTIVE_0, ACTIVE_1}
use Rattle.vx_fields.specs.declared.rpl.TheConstants.{num_ref_entries, ltrp_in_header_flag, rpl_sps_flag, rpl_idx}
use Rattle.vx_fields.specs.declared.sps.TheConstants.{sps_chroma_format_idc, sps_log2_max_pic_order_cnt_lsb_minus4}
use Rattle.vx_fields.specs.declared.sps.TheConstants.{sps_weighted_pred_flag, sps_weighted_bipred_flag, sps_long_term_ref_pics_flag}
use Rattle.vx_fields.specs.declared.sps.TheConstants.{sps_num_ref_pic_lists}
use Rattle.vx_fields.specs.declared.pps.TheConstants.{pps_rpl1_idx_present_flag, pps_weighted_bipred_flag, pps_wp_info_in_ph_flag}
use Rattle.vx_rpl.specs.declared.entry.RplTable.{RplTable}
use Rattle.vx_rpl.specs.declared.tables.TheConstants.{BEFORE_LIST_0, CHOICE, REF_PIC_LIST_STRUCT, LONG_TERM}
use Rattle.vx_rpl.specs.declared.tables.TheConstants.{BEHIND_LIST_0, BEHIND_LIST_1, WEIGHTS_0, WEIGHTS, WEIGHTS_1}
use Rattle.vx_rpl.specs.Lists.{own_and_long_term, lists_form, weights}
use Rattle.vx_rpl.specs.Resolved.{table_of}
use Rattle.vx_rpl.specs.HeaderLists.{lists_of}

-- ---- the numbers on which they depend

-- Lists: five numbers of the parameter sets, whatever structures the SPS has.
abbrev pub fields_behind_lists : List ℕ
fields_behind_lists = IS_LIST_0 ∷ NUM_STRUCTURES ∷ (named_by BEFORE_LIST_0 ++ named_by CHOICE ++ named_by_all own_and_long_term
    ++ named_by BEHIND_LIST_0 ++ named_by BEHIND_LIST_1)

abbrev pub ListsDepend : Type 0
ListsDepend = (table : RplTable) → DependsOnlyOn
    (sps_log2_max_pic_order_cnt_lsb_minus4 ∷ sps_weighted_pred_flag ∷ sps_weighted_bipred_flag ∷ sps_long_term_ref_pics_flag
    ∷ pps_rpl1_idx_present_flag ∷ [])
    fields_behind_lists (lists_form table)

-- A structure: four of the SPS, its index and the number of structures.
abbrev pub StructureDepends : Type 0
StructureDepends = ReadsOnly
    (sps_log2_max_pic_order_cnt_lsb_minus4 ∷ sps_weighted_pred_flag ∷ sps_weighted_bipred_flag ∷ sps_long_term_ref_pics_flag
    ∷ STRUCTURE ∷ NUM_STRUCTURES ∷ [])
    REF_PIC_LIST_STRUCT

-- Weights: chroma, two flags of the PPS, and the lists' entries and active ones.
abbrev pub WeightsDepend : Type 0
WeightsDepend = SectionsReadOnly
    (sps_chroma_format_idc ∷ pps_wp_info_in_ph_flag ∷ pps_weighted_bipred_flag ∷ ENTRIES_0 ∷ ENTRIES_1 ∷ ACTIVE_0 ∷ ACTIVE_1 ∷ [])
    weights

abbrev pub FieldsAreCodedOnce : Type 0
FieldsAreCodedOnce = CodedOnce (CHOICE ∷ REF_PIC_LIST_STRUCT ∷ LONG_TERM ∷ WEIGHTS_0 ∷ WEIGHTS ∷ WEIGHTS_1 ∷ [])

-- ---- how what is known is carried along the lists: the tests of their tables, one after another

-- Before the choice of a list's structure, the scope receives which list it is, and how many structures the SPS has for it.
abbrev pub at_choice : List ℕ → List ℕ → List ℕ
at_choice shown known = grown shown (grown shown known IS_LIST_0) NUM_STRUCTURES

abbrev pub at_structure : List ℕ → List ℕ → List ℕ
at_structure shown known = behind_table shown (at_choice shown known) CHOICE

-- If the list takes a structure of the SPS, then this and which one it is are known.
unfoldable pub list_chains : List ℕ → List ℕ → Bool
list_chains shown known = table_depends shown (at_choice shown known) CHOICE
    && ((has (at_structure shown known) rpl_sps_flag && has (at_structure shown known) rpl_idx)
    && sections_chain shown (at_structure shown known) own_and_long_term)

unfoldable pub known_behind_list : List ℕ → List ℕ → List ℕ
known_behind_list shown known = behind_sections shown (at_structure shown known) own_and_long_term

unfoldable pub first_chains : List ℕ → List ℕ → Bool
first_chains shown known = table_depends shown known BEFORE_LIST_0
    && (list_chains shown (behind_table shown known BEFORE_LIST_0)
    && table_depends shown (known_behind_list shown (behind_table shown known BEFORE_LIST_0)) BEHIND_LIST_0)

unfoldable pub behind_first : List ℕ → List ℕ → List ℕ
behind_first shown known = behind_table shown (known_behind_list shown (behind_table shown known BEFORE_LIST_0)) BEHIND_LIST_0

unfoldable pub second_chains : List ℕ → List ℕ → Bool
second_chains shown known = list_chains shown known && table_depends shown (known_behind_list shown known) BEHIND_LIST_1

unfoldable pub known_behind_second : List ℕ → List ℕ → List ℕ
known_behind_second shown known = behind_table shown (known_behind_list shown known) BEHIND_LIST_1

unfoldable pub lists_chain : List ℕ → List ℕ → Bool
lists_chain shown known = first_chains shown known && second_chains shown (behind_first shown known)

unfoldable pub behind_lists : List ℕ → List ℕ → List ℕ
behind_lists shown known = known_behind_second shown (behind_first shown known)

abbrev pub ListsCarry : Type 0
ListsCarry = (table : RplTable) (shown known : List ℕ) → lists_chain shown known ≡ true
    → Carries shown known (behind_lists shown known) (lists_form table)

-- ---- facts of each field

abbrev pub lists_pass : (Row → Bool) → Bool
lists_pass test = rows_pass test BEFORE_LIST_0
    && (rows_pass test CHOICE
    && (sections_pass test own_and_long_term && (rows_pass test BEHIND_LIST_0 && rows_pass test BEHIND_LIST_1)))

abbrev pub ListsShow : Type 0
ListsShow = (table : RplTable) (shown : List ℕ) → lists_pass (shows_row shown) ≡ true → AlwaysShown shown (lists_form table)

abbrev pub ListsKeep : Type 0
ListsKeep = (table : RplTable) (shown s : List ℕ) → lists_pass (star_tells shown) ≡ true → KeepsShown shown (lists_form table s)

-- Names that the lists leave unchanged.
abbrev pub lists_hide : List ℕ → Bool
lists_hide names = hides names BEFORE_LIST_0
    && (hides names CHOICE
    && (sections_hide names own_and_long_term && (hides names BEHIND_LIST_0 && hides names BEHIND_LIST_1)))

abbrev pub has_none : List ℕ → List ℕ → Bool
has_none names [] = true
has_none names (n ∷ more) = not (has names n) && has_none names more

abbrev pub ListsLeave : Type 0
ListsLeave = (table : RplTable) (names : List ℕ) → lists_hide names ≡ true
    → has_none names (IS_LIST_0 ∷ NUM_STRUCTURES ∷ num_ref_entries ∷ ltrp_in_header_flag ∷ LONG_ENTRIES ∷ []) ≡ true
    → Leaves names (lists_form table)

-- ---- the items that determine the lists

-- The set has this number of fields from this one on.
abbrev pub has_run : List ℕ → ℕ → ℕ → Bool
has_run names of zero = true
has_run names of (suc more) = has names of && has_run names (of + 1) more

-- The same items of their fields, at scopes that agree on what they depend on, determine the same lists.
abbrev pub ListsFollowItems : Type 0
ListsFollowItems = (table : RplTable) (known s t names : List ℕ) (items others : List Item) → Agree known s t
    → IsTrue (has known sps_weighted_pred_flag) → IsTrue (has known sps_weighted_bipred_flag)
    → IsTrue (has known sps_long_term_ref_pics_flag) → IsTrue (has known pps_rpl1_idx_present_flag)
    → has_run names num_ref_entries 11 ≡ true → shown_items names items ≡ shown_items names others
    → lists_of table s items ≡ lists_of table t others

-- Those of structures and of their numbers determine the same structures of an SPS.
abbrev pub TablesFollowItems : Type 0
TablesFollowItems = (weighted : Bool) (names : List ℕ) (items others : List Item) → IsTrue (has names sps_num_ref_pic_lists)
    → has_run names num_ref_entries 6 ≡ true → shown_items names items ≡ shown_items names others
    → table_of weighted items ≡ table_of weighted others
