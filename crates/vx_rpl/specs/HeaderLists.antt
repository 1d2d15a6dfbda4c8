-- What the items of a header determine: the entries of its two reference picture lists (H.266 7.4.10). The contract of
-- `resolve_lists` relies on it.
use Rattle.std.specs.Prelude.{ℕ, Bool, true, false, cond, ◌&&◌, ◌||◌, ◌==◌, nat_le, nat_lt, Option, None, Some, List, [], ◌∷◌}
use Rattle.std.specs.Prelude.{length, take, filter, slice_get, slice_index}
use Rattle.vx_bits.specs.declared.list.Item.{Item}
use Rattle.vx_table.specs.Scope.{is_set}
use Rattle.vx_fields.specs.declared.rpl.TheConstants.{num_ref_entries, rpl_sps_flag, rpl_idx, poc_lsb_lt}
use Rattle.vx_fields.specs.declared.rpl.TheConstants.{delta_poc_msb_cycle_present_flag, delta_poc_msb_cycle_lt}
use Rattle.vx_fields.specs.declared.sps.TheConstants.{sps_long_term_ref_pics_flag, sps_weighted_pred_flag, sps_weighted_bipred_flag}
use Rattle.vx_fields.specs.declared.pps.TheConstants.{pps_rpl1_idx_present_flag}
use Rattle.vx_rpl.specs.declared.entry.RefEntry.{RefEntry}
use Rattle.vx_rpl.specs.declared.entry.RefEntry.TheVariants.{Short, Long}
use Rattle.vx_rpl.specs.declared.entry.RefLists.{RefLists}
use Rattle.vx_rpl.specs.declared.entry.Structure.{Structure}
use Rattle.vx_rpl.specs.declared.entry.RplTable.{RplTable}
use Rattle.vx_rpl.specs.declared.lists.Choice.{Choice}
use Rattle.vx_rpl.specs.Resolved.{next_number, is_of_structure, entries_from}

-- What follows the next number, if it is one of this field (our own).
abbrev pub behind_next : ℕ → List Item → List Item
behind_next of [] = []
behind_next of (item ∷ items) = cond (item.field == of) items (item ∷ items)

-- ---- where the structure of a list is (7.3.9, 7.4.10)

-- rpl_sps_flag: if it isn't coded, that of list 0, and 0 if the SPS has no structure for the list (7.4.10).
abbrev pub is_from_sps : Bool → ℕ → Choice → List Item → Bool
is_from_sps is_spelled count taken items = nat_lt 0 count && cond is_spelled (is_set (next_number rpl_sps_flag items)) taken.from_sps

-- rpl_idx: if it isn't coded, that of list 0, and 0 if the SPS has one structure for the list (7.4.10).
abbrev pub rpl_index : Bool → ℕ → Choice → List Item → ℕ
rpl_index is_spelled count taken items =
    cond (nat_lt 1 count) (cond is_spelled (next_number rpl_idx (behind_next rpl_sps_flag items)) taken.index) 0

-- Both, for a list with this number of structures in the SPS, if list 0 has this choice (7.4.10).
abbrev pub choice_of : Bool → ℕ → Choice → List Item → Choice
choice_of is_spelled count taken items = record {
  from_sps = is_from_sps is_spelled count taken items;
  index = rpl_index is_spelled count taken items;
}

-- What follows the choice (our own).
abbrev pub behind_choice : List Item → List Item
behind_choice items = behind_next rpl_idx (behind_next rpl_sps_flag items)

-- ---- the structure (7.3.10, 7.4.10)

-- None, if there is none (our own).
abbrev pub structure_found : Option Structure → Structure
structure_found None = record { entries = []; in_header = false }
structure_found (Some structure) = structure

-- The list's own, after num_ref_entries: the low bits of its long-term entries are in the header (7.4.11, ltrp_in_header_flag).
abbrev pub own_structure : Bool → Bool → List Item → Structure
own_structure weighted long_term items = record { entries = take 29 (entries_from weighted 0 items); in_header = long_term }

-- The SPS's at rpl_idx if rpl_sps_flag is 1, otherwise the list's own (RplsIdx, 7.4.10).
abbrev pub structure_of_list : Bool → Bool → List Structure → Choice → List Item → Structure
structure_of_list weighted long_term structures choice items =
    cond choice.from_sps (structure_found (slice_get structures choice.index))
    (own_structure weighted long_term (behind_next num_ref_entries items))

-- What follows a structure's items (our own).
abbrev pub behind_entries : List Item → List Item
behind_entries [] = []
behind_entries (item ∷ items) = cond (is_of_structure item) (behind_entries items) (item ∷ items)

abbrev pub behind_own : Choice → List Item → List Item
behind_own choice items = cond choice.from_sps items (behind_entries (behind_next num_ref_entries items))

-- ---- the header's fields for long-term entries (7.3.9, 7.4.10)

-- delta_poc_msb_cycle_lt, if it is present (7.3.9).
abbrev pub cycle_of : List Item → Option ℕ
cycle_of items = cond (next_number delta_poc_msb_cycle_present_flag items == 0) None
    (Some (next_number delta_poc_msb_cycle_lt (behind_next delta_poc_msb_cycle_present_flag items)))

-- An entry completed from the next items: the low bits are poc_lsb_lt if they are in the header, otherwise rpls_poc_lsb_lt
-- (PocLsbLt, 7.4.10).
abbrev pub entry_told : Bool → RefEntry → List Item → RefEntry
entry_told in_header (Short abs sign) items = Short abs sign
entry_told in_header (Long lsb msb) items = Long (cond in_header (next_number poc_lsb_lt items) lsb) (cycle_of (behind_next poc_lsb_lt items))

-- What follows the items of an entry (our own).
abbrev pub behind_entry : RefEntry → List Item → List Item
behind_entry (Short abs sign) items = items
behind_entry (Long lsb msb) items = behind_next delta_poc_msb_cycle_lt (behind_next delta_poc_msb_cycle_present_flag (behind_next poc_lsb_lt items))

-- Entries completed from the next items, in order (7.3.9).
abbrev pub entries_told : Bool → List RefEntry → List Item → List RefEntry
entries_told in_header [] items = []
entries_told in_header (entry ∷ entries) items =
    entry_told in_header entry items ∷ entries_told in_header entries (behind_entry entry items)

-- What follows the items of all entries (our own).
abbrev pub behind_told : List RefEntry → List Item → List Item
behind_told [] items = items
behind_told (entry ∷ entries) items = behind_told entries (behind_entry entry items)

-- The entries of a structure, completed from the header (7.4.10).
abbrev pub told : Structure → List Item → List RefEntry
told structure items = entries_told structure.in_header structure.entries items

-- ---- the lists (7.3.9, 7.4.10)

-- Slices may have weights (7.4.11).
abbrev pub may_have_weights : List ℕ → Bool
may_have_weights s = is_set (slice_index s sps_weighted_pred_flag) || is_set (slice_index s sps_weighted_bipred_flag)

-- sps_long_term_ref_pics_flag (7.3.10).
abbrev pub has_long_term : List ℕ → Bool
has_long_term s = is_set (slice_index s sps_long_term_ref_pics_flag)

-- A list at the sets in force, with this choice; the items after that come first (7.4.10).
unfoldable pub list_of : List ℕ → List Structure → Choice → List Item → List RefEntry
list_of s structures choice items =
    told (structure_of_list (may_have_weights s) (has_long_term s) structures choice items) (behind_own choice items)

-- What follows a list's items (our own).
abbrev pub behind_list : Choice → List RefEntry → List Item → List Item
behind_list choice list items = behind_told list (behind_own choice items)

-- List 0, whose choice is coded.
abbrev pub no_choice : Choice
no_choice = record { from_sps = false; index = 0 }

abbrev pub choice_0 : RplTable → List Item → Choice
choice_0 table items = choice_of true (length table.first) no_choice items

unfoldable pub list_0 : RplTable → List ℕ → List Item → List RefEntry
list_0 table s items = list_of s table.first (choice_0 table items) (behind_choice items)

unfoldable pub behind_list_0 : RplTable → List ℕ → List Item → List Item
behind_list_0 table s items = behind_list (choice_0 table items) (list_0 table s items) (behind_choice items)

-- List 1, whose choice is coded if pps_rpl1_idx_present_flag is 1, and otherwise inherited (7.3.9, 7.4.10).
abbrev pub choice_1 : RplTable → List ℕ → List Item → Choice
choice_1 table s items =
    choice_of (is_set (slice_index s pps_rpl1_idx_present_flag)) (length table.second) (choice_0 table items) (behind_list_0 table s items)

unfoldable pub list_1 : RplTable → List ℕ → List Item → List RefEntry
list_1 table s items = list_of s table.second (choice_1 table s items) (behind_choice (behind_list_0 table s items))

-- Both depend only on the items of their fields, whatever other items are among them, and on the sets in force (our own).
abbrev pub is_of_lists : Item → Bool
is_of_lists item = nat_le num_ref_entries item.field && nat_le item.field delta_poc_msb_cycle_lt

-- ref_pic_lists( ): both lists (7.3.9, 7.4.10).
unfoldable pub lists_of : RplTable → List ℕ → List Item → RefLists
lists_of table s items = record { first = list_0 table s (filter is_of_lists items); second = list_1 table s (filter is_of_lists items) }
