-- What the items of reference picture list structures determine: entries with their numbers (H.266 7.4.11). The contract of
-- `RplTable::new` relies on it.
use Rattle.std.specs.Prelude.{ℕ, ◌+◌, Bool, cond, ◌&&◌, ◌||◌, ◌==◌, nat_le, nat_lt, Option, None, Some, List, [], ◌∷◌, take, filter}
use Rattle.vx_bits.specs.declared.list.Item.{Item}
use Rattle.vx_table.specs.Scope.{natural, capped, is_set}
use Rattle.vx_fields.specs.declared.rpl.TheConstants.{num_ref_entries, ltrp_in_header_flag, st_ref_pic_flag}
use Rattle.vx_fields.specs.declared.rpl.TheConstants.{abs_delta_poc_st, strp_entry_sign_flag, rpls_poc_lsb_lt}
use Rattle.vx_fields.specs.declared.sps.TheConstants.{sps_num_ref_pic_lists}
use Rattle.vx_rpl.specs.declared.entry.RefEntry.{RefEntry}
use Rattle.vx_rpl.specs.declared.entry.RefEntry.TheVariants.{Short, Long}
use Rattle.vx_rpl.specs.declared.entry.Structure.{Structure}
use Rattle.vx_rpl.specs.declared.entry.RplTable.{RplTable}

-- ---- items by their fields (our own)

-- The next number, if it is one of this field; otherwise 0.
abbrev pub next_number : ℕ → List Item → ℕ
next_number of [] = 0
next_number of (item ∷ items) = cond (item.field == of) (natural item.value) 0

-- What follows the first number of a field, if there is one.
abbrev pub past : ℕ → List Item → Option (List Item)
past of [] = None
past of (item ∷ items) = cond (item.field == of) (Some items) (past of items)

-- ---- the entries of a structure (7.3.10, 7.4.11)

-- AbsDeltaPocSt of entry i (7.4.11): abs_delta_poc_st, and 1 more unless there may be weights and i isn't 0.
abbrev pub abs_delta : Bool → ℕ → ℕ → ℕ
abs_delta weighted i v = cond (weighted && nat_lt 0 i) v (capped (v + 1))

-- A short-term entry has an abs_delta_poc_st, and a long-term one an st_ref_pic_flag of 0 (7.3.10).
abbrev pub begins_entry : Item → Bool
begins_entry item = item.field == abs_delta_poc_st || (item.field == st_ref_pic_flag && natural item.value == 0)

-- The fields after num_ref_entries in a structure (7.3.10).
abbrev pub is_of_structure : Item → Bool
is_of_structure item = nat_le ltrp_in_header_flag item.field && nat_le item.field rpls_poc_lsb_lt

-- The entry that begins with an item; an absent sign or lsb is 0 (7.4.11).
abbrev pub entry_of : Bool → ℕ → Item → List Item → RefEntry
entry_of weighted i item items =
    cond (item.field == abs_delta_poc_st)
    (Short (abs_delta weighted i (natural item.value)) (is_set (next_number strp_entry_sign_flag items)))
    (Long (next_number rpls_poc_lsb_lt items) None)

-- The entries from number i on of a structure whose further items come first (7.4.11).
abbrev pub entries_from : Bool → ℕ → List Item → List RefEntry
entries_from weighted i [] = []
entries_from weighted i (item ∷ items) =
    cond (is_of_structure item)
    (cond (begins_entry item) (entry_of weighted i item items ∷ entries_from weighted (i + 1) items) (entries_from weighted i items))
    []

-- A structure whose items after num_ref_entries come first; it has at most 29 entries (7.4.11).
abbrev pub structure_of : Bool → List Item → Structure
structure_of weighted items = record {
  entries = take 29 (entries_from weighted 0 items);
  in_header = is_set (next_number ltrp_in_header_flag items);
}

-- ---- the structures of an SPS (7.3.2.4, 7.3.10)

-- The structures after an sps_num_ref_pic_lists, up to the next (7.3.2.4).
abbrev pub structures_from : Bool → List Item → List Structure
structures_from weighted [] = []
structures_from weighted (item ∷ items) =
    cond (item.field == sps_num_ref_pic_lists) []
    (cond (item.field == num_ref_entries) (structure_of weighted items ∷ structures_from weighted items) (structures_from weighted items))

abbrev pub structures_behind : Bool → Option (List Item) → List Structure
structures_behind weighted None = []
structures_behind weighted (Some items) = take 64 (structures_from weighted items)

-- List 0's structures come after the first sps_num_ref_pic_lists, at most 64 (7.3.2.4).
abbrev pub list_0_structures : Bool → List Item → List Structure
list_0_structures weighted items = structures_behind weighted (past sps_num_ref_pic_lists items)

abbrev pub behind_second : Option (List Item) → Option (List Item)
behind_second None = None
behind_second (Some items) = past sps_num_ref_pic_lists items

-- List 1's come after the second; if there is none, they are list 0's (sps_rpl1_same_as_rpl0_flag, 7.4.3.4).
abbrev pub second_or_first : Bool → List Item → Option (List Item) → List Structure
second_or_first weighted items None = list_0_structures weighted items
second_or_first weighted items (Some others) = structures_behind weighted (Some others)

abbrev pub second_of : Bool → List Item → List Structure
second_of weighted items = second_or_first weighted items (behind_second (past sps_num_ref_pic_lists items))

abbrev pub both_of : Bool → List Item → RplTable
both_of weighted items = record { first = list_0_structures weighted items; second = second_of weighted items }

-- They depend only on the items of structures and of their numbers, whatever other items are among them (our own).
abbrev pub is_of_table : Item → Bool
is_of_table item = item.field == sps_num_ref_pic_lists || (nat_le num_ref_entries item.field && nat_le item.field rpls_poc_lsb_lt)

-- The structures of both lists in an SPS (7.3.2.4).
unfoldable pub table_of : Bool → List Item → RplTable
table_of weighted items = both_of weighted (filter is_of_table items)
