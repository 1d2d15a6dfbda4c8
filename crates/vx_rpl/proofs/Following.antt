-- The items of their fields tell the lists of a header, and the structures of an SPS.
use Rattle.std.proofs.Common.{◌≡◌, inl, inr, ℕ, zero, suc, ◌+◌, ◌≤◌, ◌<◌, Bool, true, ◌&&◌, IsTrue, List, [], ◌∷◌, filter, refl, ap, sym, ◌∙◌, arith}
use Rattle.std.specs.Prelude.{nat_le, ◌==◌}
use Rattle.std.proofs.lemmas.Bool.{cases_Bool, cases_eq, and_parts, or_cases, leb-true, eqb-true}
use Rattle.vx_bits.specs.declared.list.Item.{Item}
use Rattle.vx_table.specs.Depends.{has, Agree}
use Rattle.vx_table.specs.Shown.{shown_items}
use Rattle.vx_fields.specs.declared.sps.TheConstants.{sps_num_ref_pic_lists, sps_long_term_ref_pics_flag, sps_weighted_pred_flag, sps_weighted_bipred_flag}
use Rattle.vx_fields.specs.declared.pps.TheConstants.{pps_rpl1_idx_present_flag}
use Rattle.vx_fields.specs.declared.rpl.TheConstants.{num_ref_entries, rpls_poc_lsb_lt, delta_poc_msb_cycle_lt}
use Rattle.vx_rpl.specs.declared.entry.Structure.{Structure}
use Rattle.vx_rpl.specs.declared.entry.RplTable.{RplTable}
use Rattle.vx_rpl.specs.declared.lists.Choice.{Choice}
use Rattle.vx_rpl.specs.Resolved.{is_of_table, table_of}
use Rattle.vx_rpl.specs.HeaderLists.{is_of_lists, list_of, list_0, behind_list_0, list_1, lists_of}
use Rattle.vx_rpl.specs.Depends.{has_run, ListsFollowItems, TablesFollowItems}

-- items that pass a test stay where another test drops none of them
filter_within : (test wider : Item → Bool) → ((item : Item) → test item ≡ true → wider item ≡ true) → (items : List Item) → filter test items ≡ filter test (filter wider items)
filter_within test wider is [] = refl
filter_within test wider is (item ∷ items) =
    let more = filter_within test wider is items in
    elim (cases_Bool (test item)) [
      | inl passes ↦ rw (is item passes, passes) (ap (λ x. item ∷ x) more)
      | inr fails ↦ elim (cases_Bool (wider item)) [
        | inl stays ↦ rw (stays, fails) more
        | inr goes ↦ rw (goes, fails) more
      ]
    ]

same_filtered : (test : Item → Bool) (names : List ℕ) (items others : List Item) → ((item : Item) → test item ≡ true → IsTrue (has names item.field)) → shown_items names items ≡ shown_items names others
    → filter test items ≡ filter test others
same_filtered test names items others is same =
    filter_within test (λ item. has names item.field) is items ∙ ap (filter test) same ∙ sym (filter_within test (λ item. has names item.field) is others)

-- a field of the run is in the set
in_run : (names : List ℕ) (from more of : ℕ) → has_run names from more ≡ true → from ≤ of → of < from + more → IsTrue (has names of)
in_run names from zero of h low high = absurd (omega arith)
in_run names from (suc more) of h low high =
    let p = and_parts (has names from) (has_run names (from + 1) more) h in
    elim (cases_eq of from) [
      | inl is ↦ rw is p.0
      | inr other ↦ in_run names (from + 1) more of p.1 (omega (arith, other)) (omega arith)
    ]

lists_in : (names : List ℕ) → has_run names num_ref_entries 11 ≡ true → (item : Item) → is_of_lists item ≡ true → IsTrue (has names item.field)
lists_in names run item is =
    let p = and_parts (nat_le num_ref_entries item.field) (nat_le item.field delta_poc_msb_cycle_lt) is in
    let low = leb-true num_ref_entries item.field p.0 in
    let high = leb-true item.field delta_poc_msb_cycle_lt p.1 in
    in_run names num_ref_entries 11 item.field run low (omega (arith, high))

table_in : (names : List ℕ) → IsTrue (has names sps_num_ref_pic_lists) → has_run names num_ref_entries 6 ≡ true → (item : Item) → is_of_table item ≡ true → IsTrue (has names item.field)
table_in names count run item is = elim (or_cases (item.field == sps_num_ref_pic_lists) (nat_le num_ref_entries item.field && nat_le item.field rpls_poc_lsb_lt) is) [
  | inl number ↦ rw (eqb-true item.field sps_num_ref_pic_lists number) count
  | inr within ↦
      let p = and_parts (nat_le num_ref_entries item.field) (nat_le item.field rpls_poc_lsb_lt) within in
      let low = leb-true num_ref_entries item.field p.0 in
      let high = leb-true item.field rpls_poc_lsb_lt p.1 in
      in_run names num_ref_entries 6 item.field run low (omega (arith, high))
]

pub tables_follow_items : TablesFollowItems
unfolding table_of
tables_follow_items weighted names items others count run same = rw (same_filtered is_of_table names items others (table_in names count run) same) refl

-- ---- at scopes that agree

same_list : (known s t : List ℕ) (structures : List Structure) (choice : Choice) (items : List Item) → Agree known s t
    → IsTrue (has known sps_weighted_pred_flag) → IsTrue (has known sps_weighted_bipred_flag) → IsTrue (has known sps_long_term_ref_pics_flag)
    → list_of s structures choice items ≡ list_of t structures choice items
unfolding list_of
same_list known s t structures choice items agree pred bipred long =
    rw (agree.same sps_weighted_pred_flag pred, agree.same sps_weighted_bipred_flag bipred, agree.same sps_long_term_ref_pics_flag long) refl

same_list_0 : (table : RplTable) (known s t : List ℕ) (items : List Item) → Agree known s t
    → IsTrue (has known sps_weighted_pred_flag) → IsTrue (has known sps_weighted_bipred_flag) → IsTrue (has known sps_long_term_ref_pics_flag)
    → list_0 table s items ≡ list_0 table t items
unfolding list_0
same_list_0 table known s t items agree pred bipred long = same_list known s t table.first _ _ agree pred bipred long

same_behind : (table : RplTable) (known s t : List ℕ) (items : List Item) → Agree known s t
    → IsTrue (has known sps_weighted_pred_flag) → IsTrue (has known sps_weighted_bipred_flag) → IsTrue (has known sps_long_term_ref_pics_flag)
    → behind_list_0 table s items ≡ behind_list_0 table t items
unfolding behind_list_0
same_behind table known s t items agree pred bipred long = rw (same_list_0 table known s t items agree pred bipred long) refl

same_list_1 : (table : RplTable) (known s t : List ℕ) (items : List Item) → Agree known s t
    → IsTrue (has known sps_weighted_pred_flag) → IsTrue (has known sps_weighted_bipred_flag) → IsTrue (has known sps_long_term_ref_pics_flag) → IsTrue (has known pps_rpl1_idx_present_flag)
    → list_1 table s items ≡ list_1 table t items
unfolding list_1
same_list_1 table known s t items agree pred bipred long present =
    rw (same_behind table known s t items agree pred bipred long, agree.same pps_rpl1_idx_present_flag present) (same_list known s t table.second _ _ agree pred bipred long)

pub lists_follow_items : ListsFollowItems
unfolding lists_of
lists_follow_items table known s t names items others agree pred bipred long present run same =
    let own = same_filtered is_of_lists names items others (lists_in names run) same in
    rw (own, same_list_0 table known s t (filter is_of_lists others) agree pred bipred long, same_list_1 table known s t (filter is_of_lists others) agree pred bipred long present) refl
