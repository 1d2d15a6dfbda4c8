-- The reference picture lists of a header have few bits: their entries are 29 at most.
use Rattle.std.proofs.Common.{◌≡◌, ℕ, suc, ◌+◌, ◌*◌, ◌<◌, ◌≤◌, ◌==◌, Bool, true, false, cond, List, [], ◌∷◌, length, take, drop, slice_index, slice_set, slice_get, count_by, Option, Some, None, refl, sym, subst, ◌∙◌, arith}
use Rattle.std.proofs.lemmas.List.Sums.{count_by-le-length}
use Rattle.vx_table.specs.declared.rows.Term.TheVariants.{Latest, Number}
use Rattle.vx_table.specs.declared.rows.Formula.{Formula}
use Rattle.vx_table.specs.declared.rows.Formula.TheVariants.{Equal, Plain, Plus}
use Rattle.vx_table.specs.declared.rows.Presence.TheVariants.{Repeat, When}
use Rattle.vx_table.specs.declared.rows.Cell.{Cell}
use Rattle.vx_table.specs.declared.rows.Row.{Row}
use Rattle.vx_table.specs.declared.rows.Row.TheVariants.{Block, Field, Name}
use Rattle.vx_table.specs.Claims.{hides_counter, hides_row}
use Rattle.vx_table.specs.Depends.{IsLeft}
use Rattle.vx_table.specs.EachField.{rows_pass}
use Rattle.vx_table.specs.Forms.{Form, ◌>>=◌, form_of, has_value, present, turns}
use Rattle.vx_table.specs.Parts.{always, sections_form}
use Rattle.vx_table.specs.Scope.{fresh, one_if, value}
use Rattle.vx_table.specs.laws.Sizes.{Bound, EachSpelling, IsShort, IsWithin, code_bits, greatest_coded, greatest_ranged, greatest_value, most_turns, part_bits, presence_keeps, row_keeps, table_bits}
use Rattle.vx_table.proofs.Blocks.{form-block-whole, form-field, form-name}
use Rattle.vx_table.proofs.Loading.{set_below}
use Rattle.vx_table.proofs.Rewrites.{left_end, leaves_present, tables_leave}
use Rattle.vx_table.proofs.Sizes.{name_within, short_field, short_present, short_then, short_turns, spelling_done, spelling_then, spelling_weaker, tables_are_short, within_set}
use Rattle.vx_fields.specs.declared.alf.TheConstants.{num_alf_aps_ids_luma}
use Rattle.vx_fields.specs.declared.names.ph.TheConstants.{EXTRA_PH_BITS}
use Rattle.vx_fields.specs.declared.names.rpl.TheConstants as names
use Rattle.vx_fields.specs.declared.names.sh.TheConstants.{DEFAULT_ACTIVE_0, DEFAULT_ACTIVE_1, EXTRA_SH_BITS, NUM_ENTRY_POINTS}
use Rattle.vx_fields.specs.declared.ph.TheConstants.{ph_extension_length}
use Rattle.vx_fields.specs.declared.rpl.TheConstants as rpl
use Rattle.vx_fields.specs.declared.sh.TheConstants.{sh_num_ref_idx_active_minus1, sh_slice_header_extension_length}
use Rattle.vx_fields.specs.declared.sps.TheConstants.{sps_long_term_ref_pics_flag}
use Rattle.vx_fields.specs.declared.weights.TheConstants.{num_l0_weights, num_l1_weights}
use Rattle.vx_rpl.specs.declared.entry.RplTable.{RplTable}
use Rattle.vx_rpl.specs.declared.entry.Structure.{Structure}
use Rattle.vx_rpl.specs.declared.tables.TheConstants.{BEFORE_LIST_0, BEHIND_LIST_0, BEHIND_LIST_1, CHOICE, LONG_TERM, REF_PIC_LIST_STRUCT}
use Rattle.vx_ph.specs.laws.Sizes.{AreFew}
use Rattle.vx_ph.proofs.Bounding.{bound_by, set_here, table_few}
use Rattle.vx_rpl.specs.Lists.{behind_structure, begun, choice_form, chosen_form, first_form, is_long, list_form, lists_form, own_and_long_term, picked, second_form}

-- the fields and names that count, in picture headers and in slice headers
abbrev pub bounds : List Bound
bounds =
    bound_by EXTRA_PH_BITS 32 ∷ bound_by num_alf_aps_ids_luma 7 ∷ bound_by ph_extension_length 256 ∷ bound_by rpl.num_ref_entries 29 ∷ bound_by names.IS_LONG 1
    ∷ bound_by names.LONG_ENTRIES 29 ∷ bound_by names.ACTIVE_0 15 ∷ bound_by names.ACTIVE_1 15 ∷ bound_by names.MOST_WEIGHTS 15 ∷ bound_by num_l0_weights 15
    ∷ bound_by num_l1_weights 15 ∷ bound_by names.NUM_WEIGHTS 15
    ∷ bound_by EXTRA_SH_BITS 32 ∷ bound_by DEFAULT_ACTIVE_0 14 ∷ bound_by DEFAULT_ACTIVE_1 14 ∷ bound_by sh_num_ref_idx_active_minus1 14
    ∷ bound_by sh_slice_header_extension_length 256 ∷ bound_by NUM_ENTRY_POINTS 65536 ∷ []

-- ---- tables, row by row

-- however such rows are entered, they have so few bits
record HaveFew (n : ℕ) (rows : List Row) : Type 0 where
  at : (s : List ℕ) → IsWithin bounds s → IsShort bounds n (form_of rows s)

few_rows : (rows : List Row) → rows_pass (row_keeps bounds) rows ≡ true → HaveFew (table_bits bounds rows) rows
few_rows rows keep = record { at = λ s within. tables_are_short bounds rows s keep within }

name_first : (n name : ℕ) (formula : Formula) (rows : List Row) → row_keeps bounds (Name name formula) ≡ true → HaveFew n rows → HaveFew n (Name name formula ∷ rows)
name_first n name formula rows keeps more = record {
  at = λ s within. subst (IsShort bounds n) (sym (form-name name formula rows s)) (more.at (slice_set s name (value s formula)) (name_within bounds s name formula keeps within));
}

field_first : (n : ℕ) (c : Cell Formula) (rows : List Row) → row_keeps bounds (Field c) ≡ true → HaveFew n rows → HaveFew (code_bits bounds c.coding + n) (Field c ∷ rows)
field_first n c rows keeps more = record {
  at = λ s within. subst (IsShort bounds (code_bits bounds c.coding + n)) (sym (form-field c rows s)) (short_field bounds c (form_of rows) s n keeps within more.at);
}

block_first : (n m : ℕ) (holds : Formula) (k : ℕ) (rows : List Row) → k ≤ length rows → HaveFew n (take k rows) → HaveFew m (drop k rows) → HaveFew (1 * n + m) (Block (When holds) k ∷ rows)
unfolding presence_keeps most_turns
block_first n m holds k rows fits inside more = record {
  at = λ s within. subst (IsShort bounds (1 * n + m)) (sym (form-block-whole (When holds) k rows s fits))
      (short_then bounds (present (When holds) (form_of (take k rows)) s) (form_of (drop k rows)) (1 * n) m (short_present bounds (When holds) (form_of (take k rows)) n s refl within inside.at) more.at);
}

-- ---- the entries of a structure, of which some are long-term

abbrev only_long : List ℕ
only_long = names.LONG_ENTRIES ∷ []

-- so many at most were counted
record CountsLong (k : ℕ) (s : List ℕ) : Type 0 where
  within : IsWithin bounds s
  few : slice_index s names.LONG_ENTRIES ≤ k

-- a part that leaves the count alone
left_counts : (n k : ℕ) (s : List ℕ) (form : Form (List ℕ)) → IsShort bounds n form → IsLeft only_long s form → slice_index s names.LONG_ENTRIES ≤ k → EachSpelling form (λ size u. (size ≤ n) × CountsLong k u)
unfolding fresh
left_counts n k s form short left few = record {
  at = λ place values end follows.
      let is = short.at place values end follows in
      let same = (left_end left follows).same names.LONG_ENTRIES refl in
      (is.0, record { within = is.1; few = omega (arith, few, same) });
}

abbrev R : List Row
R = REF_PIC_LIST_STRUCT

abbrev long_flag : Formula
long_flag = Equal (Latest rpl.st_ref_pic_flag) (Number 0)

abbrev one_more : Formula
one_more = Plus (Latest names.LONG_ENTRIES) (Latest names.IS_LONG)

long_keeps : row_keeps bounds (Name names.IS_LONG long_flag) ≡ true
unfolding row_keeps greatest_value
long_keeps = refl

counted_more : (k : ℕ) (s : List ℕ) → k < 29 → CountsLong k s → CountsLong (k + 1) (slice_set s names.LONG_ENTRIES (value s one_more))
unfolding value
counted_more k s small before =
    let flag = before.within.at names.IS_LONG in
    let few = before.few in
    let more : value s one_more ≤ k + 1 = omega (arith, flag, few) in
    let set = set_below s names.LONG_ENTRIES names.LONG_ENTRIES (value s one_more) (k + 2) (λ same. omega (arith, more)) (omega (arith, few)) in
    record { within = within_set bounds s names.LONG_ENTRIES (value s one_more) before.within (omega (arith, more, small)); few = omega (arith, set) }

-- ---- one entry

front_left : (u : List ℕ) → IsLeft only_long u (present (When (Plain (Latest sps_long_term_ref_pics_flag))) (form_of (take 1 (drop 12 R))) u)
unfolding fresh hides_counter hides_row
front_left u = (leaves_present only_long (Plain (Latest sps_long_term_ref_pics_flag)) (form_of (take 1 (drop 12 R))) (tables_leave only_long (take 1 (drop 12 R)) refl)).at u

short_left : (u : List ℕ) → IsLeft only_long u (present (When (Plain (Latest rpl.st_ref_pic_flag))) (form_of (take 5 (drop 14 R))) u)
unfolding fresh hides_counter hides_row
short_left u = (leaves_present only_long (Plain (Latest rpl.st_ref_pic_flag)) (form_of (take 5 (drop 14 R))) (tables_leave only_long (take 5 (drop 14 R)) refl)).at u

back_left : (u : List ℕ) → IsLeft only_long u (form_of (drop 21 R) u)
unfolding fresh hides_counter hides_row
back_left u = (tables_leave only_long (drop 21 R) refl).at u

under : (holds : Formula) (rows : List Row) (n : ℕ) (u : List ℕ) → rows_pass (row_keeps bounds) rows ≡ true → table_bits bounds rows ≤ n → IsWithin bounds u → IsShort bounds n (present (When holds) (form_of rows) u)
unfolding presence_keeps most_turns
under holds rows n u keep few within =
    spelling_weaker (present (When holds) (form_of rows) u) (λ k t. (k ≤ 1 * table_bits bounds rows) × IsWithin bounds t) (λ k t. (k ≤ n) × IsWithin bounds t)
    (short_present bounds (When holds) (form_of rows) (table_bits bounds rows) u refl within (λ t there. tables_are_short bounds rows t keep there)) (λ k t is. (let one = is.0 in omega (arith, one, few), is.1))

-- behind the count: at most an lsb
entry_end : (k : ℕ) (s : List ℕ) → k < 29 → CountsLong k s → EachSpelling (form_of (drop 19 R) s) (λ size u. (size ≤ 40) × CountsLong (k + 1) u)
unfolding table_bits part_bits most_turns code_bits row_keeps presence_keeps greatest_coded greatest_ranged greatest_value has_value
entry_end k s small before =
    let u : List ℕ = slice_set s names.IS_LONG (value s long_flag) in
    let set = set_below s names.IS_LONG names.LONG_ENTRIES (value s long_flag) (suc k) (λ same. absurd (omega (arith, same))) (let few = before.few in omega (arith, few)) in
    let at_u : CountsLong k u = record { within = name_within bounds s names.IS_LONG long_flag long_keeps before.within; few = omega (arith, set) } in
    let w : List ℕ = slice_set u names.LONG_ENTRIES (value u one_more) in
    let at_w = counted_more k u small at_u in
    let same : form_of (drop 19 R) s ≡ form_of (drop 21 R) w = form-name names.IS_LONG long_flag (drop 20 R) s ∙ form-name names.LONG_ENTRIES one_more (drop 21 R) u in
    let last : IsShort bounds 40 (form_of (drop 21 R) w)
    = spelling_weaker (form_of (drop 21 R) w) (λ n t. (n ≤ table_bits bounds (drop 21 R)) × IsWithin bounds t) (λ n t. (n ≤ 40) × IsWithin bounds t)
    (tables_are_short bounds (drop 21 R) w refl at_w.within) (λ n t is. (let few = is.0 in omega (arith, few), is.1)) in
    subst (λ f. EachSpelling f (λ size t. (size ≤ 40) × CountsLong (k + 1) t)) (sym same) (left_counts 40 (k + 1) w (form_of (drop 21 R) w) last (back_left w) at_w.few)

one_entry : (k : ℕ) (s : List ℕ) → k < 29 → CountsLong k s → EachSpelling (form_of (drop 10 R) (slice_set s names.ENTRY k)) (λ size u. (size ≤ 140) × CountsLong (k + 1) u)
unfolding table_bits part_bits most_turns code_bits row_keeps presence_keeps greatest_coded greatest_ranged greatest_value has_value value
one_entry k s small before =
    let t : List ℕ = slice_set s names.ENTRY k in
    let u : List ℕ = slice_set t rpl.st_ref_pic_flag 1 in
    let few_t = set_below s names.ENTRY names.LONG_ENTRIES k (suc k) (λ same. omega arith) (let few = before.few in omega (arith, few)) in
    let few_u = set_below t rpl.st_ref_pic_flag names.LONG_ENTRIES 1 (suc k) (λ same. absurd (omega (arith, same))) (omega (arith, few_t)) in
    let at_t : IsWithin bounds t = within_set bounds s names.ENTRY k before.within (omega (arith, small)) in
    let at_u : CountsLong k u = record { within = within_set bounds t rpl.st_ref_pic_flag 1 at_t (omega arith); few = omega (arith, few_u) } in
    let long_holds : Formula = Plain (Latest sps_long_term_ref_pics_flag) in
    let short_holds : Formula = Plain (Latest rpl.st_ref_pic_flag) in
    let first = form_of (take 1 (drop 12 R)) in
    let second = form_of (take 5 (drop 14 R)) in
    let same : form_of (drop 10 R) t ≡ (present (When long_holds) first u >>= form_of (drop 13 R))
    = form-name rpl.st_ref_pic_flag (Plain (Number 1)) (drop 11 R) t ∙ form-block-whole (When long_holds) 1 (drop 12 R) u (omega arith) in
    subst (λ f. EachSpelling f (λ size w. (size ≤ 140) × CountsLong (k + 1) w)) (sym same)
    (spelling_then (present (When long_holds) first u) (form_of (drop 13 R)) (λ size w. (size ≤ 1) × CountsLong k w) (λ size w. (size ≤ 140) × CountsLong (k + 1) w)
    (left_counts 1 k u (present (When long_holds) first u) (under long_holds (take 1 (drop 12 R)) 1 u refl (omega arith) at_u.within) (front_left u) at_u.few)
    (λ n w is.
    subst (λ f. EachSpelling f (λ size x. (n + size ≤ 140) × CountsLong (k + 1) x)) (sym (form-block-whole (When short_holds) 5 (drop 14 R) w (omega arith)))
    (spelling_then (present (When short_holds) second w) (form_of (drop 19 R)) (λ size x. (size ≤ 99) × CountsLong k x) (λ size x. (n + size ≤ 140) × CountsLong (k + 1) x)
    (left_counts 99 k w (present (When short_holds) second w) (under short_holds (take 5 (drop 14 R)) 99 w refl (omega arith) is.1.within) (short_left w) is.1.few)
    (λ m x more. spelling_weaker (form_of (drop 19 R) x) (λ size y. (size ≤ 40) × CountsLong (k + 1) y) (λ size y. (n + (m + size) ≤ 140) × CountsLong (k + 1) y) (entry_end k x small more.1)
    (λ size y last. (let a = is.0 in let b = more.0 in let c = last.0 in omega (arith, a, b, c), last.1))))))

-- ---- a structure

-- its entries: as many turns as num_ref_entries, which are 29 at most
entries_few : HaveFew 4060 (drop 8 R)
unfolding present value table_bits part_bits
entries_few = record {
  at = λ s within.
      let t : List ℕ = slice_set s names.LONG_ENTRIES 0 in
      let at_t : CountsLong 0 t = record { within = within_set bounds s names.LONG_ENTRIES 0 within (omega arith); few = set_here s names.LONG_ENTRIES 0 } in
      let times : ℕ = slice_index t rpl.num_ref_entries in
      let few : times ≤ 29 = at_t.within.at rpl.num_ref_entries in
      let all : times * 140 ≤ 4060 = omega (arith, few) in
      let same : form_of (drop 8 R) s ≡ (present (Repeat names.ENTRY (Plain (Latest rpl.num_ref_entries))) (form_of (drop 10 R)) t >>= form_of [])
      = form-name names.LONG_ENTRIES (Plain (Number 0)) (drop 9 R) s ∙ form-block-whole (Repeat names.ENTRY (Plain (Latest rpl.num_ref_entries))) 14 (drop 10 R) t (omega arith) in
      let turning : IsShort bounds 4060 (turns (form_of (drop 10 R)) names.ENTRY 0 times t)
      = spelling_weaker (turns (form_of (drop 10 R)) names.ENTRY 0 times t) (λ size u. (size ≤ times * 140) × CountsLong (0 + times) u) (λ size u. (size ≤ 4060) × IsWithin bounds u)
      (short_turns bounds (form_of (drop 10 R)) names.ENTRY 140 0 times CountsLong t at_t (λ k u below before. one_entry k u (omega (arith, below, few)) before))
      (λ size u is. (let one = is.0 in omega (arith, one, all), is.1.within)) in
      subst (IsShort bounds 4060) (sym same)
      (spelling_weaker _ (λ size u. (size ≤ 4060 + 0) × IsWithin bounds u) (λ size u. (size ≤ 4060) × IsWithin bounds u)
      (short_then bounds (turns (form_of (drop 10 R)) names.ENTRY 0 times t) (form_of []) 4060 0 turning (λ u there. tables_are_short bounds [] u refl there))
      (λ size u is. (let one = is.0 in omega (arith, one), is.1)));
}

struct_few : HaveFew 4200 R
unfolding table_bits part_bits most_turns code_bits row_keeps presence_keeps greatest_coded greatest_ranged greatest_value has_value
struct_few = record {
  at = λ s within. spelling_weaker (form_of R s) (λ n t. (n ≤ 63 + (1 * table_bits bounds (take 2 (drop 5 R)) + 4060)) × IsWithin bounds t) (λ n t. (n ≤ 4200) × IsWithin bounds t)
      ((field_first (1 * table_bits bounds (take 2 (drop 5 R)) + 4060) _ (drop 1 R) refl
      (name_first _ _ _ (drop 2 R) refl (name_first _ _ _ (drop 3 R) refl (name_first _ _ _ (drop 4 R) refl
      (block_first (table_bits bounds (take 2 (drop 5 R))) 4060 _ 2 (drop 5 R) (omega arith) (few_rows (take 2 (drop 5 R)) refl)
      (name_first _ _ _ (drop 8 R) refl entries_few)))))).at s within)
      (λ n t is. (let few = is.0 in omega (arith, few), is.1));
}

-- ---- a list

one_most : (b : Bool) → one_if b ≤ 1
one_most true = omega arith
one_most false = omega arith

behind_within : (x : Structure) (s : List ℕ) → length x.entries ≤ 29 → IsWithin bounds s → IsWithin bounds (behind_structure (Some x) s)
behind_within x s few within =
    let long = count_by-le-length is_long x.entries in
    let first = within_set bounds s rpl.num_ref_entries (length x.entries) within few in
    let second = within_set bounds (slice_set s rpl.num_ref_entries (length x.entries)) rpl.ltrp_in_header_flag (one_if x.in_header) first (let one = one_most x.in_header in omega (arith, one)) in
    within_set bounds (slice_set (slice_set s rpl.num_ref_entries (length x.entries)) rpl.ltrp_in_header_flag (one_if x.in_header)) names.LONG_ENTRIES (count_by is_long x.entries) second (omega (arith, long, few))

taken_within : (found : Option Structure) (s : List ℕ) → ((x : Structure) → found ≡ Some x → length x.entries ≤ 29) → IsWithin bounds s → IsWithin bounds (behind_structure found s)
taken_within None s few within = within
taken_within (Some x) s few within = behind_within x s (few x refl) within

picked_within : (structures : List Structure) (s : List ℕ) → AreFew structures → IsWithin bounds s → IsWithin bounds (picked structures s)
unfolding picked
picked_within structures s few within = elim (slice_index s rpl.rpl_sps_flag == 0) as (λ b. IsWithin bounds (cond b s (behind_structure (slice_get structures (slice_index s rpl.rpl_idx)) s))) [
  | true ↦ within
  | false ↦ taken_within (slice_get structures (slice_index s rpl.rpl_idx)) s (few.each (slice_index s rpl.rpl_idx)) within
]

begun_within : (is_list_0 : Bool) (structures : List Structure) (s : List ℕ) → AreFew structures → IsWithin bounds s → IsWithin bounds (begun is_list_0 structures s)
unfolding begun
begun_within is_list_0 structures s few within =
    let first = within_set bounds s names.IS_LIST_0 (one_if is_list_0) within (let one = one_most is_list_0 in omega (arith, one)) in
    within_set bounds (slice_set s names.IS_LIST_0 (one_if is_list_0)) names.NUM_STRUCTURES (length structures) first (let count = few.count in omega (arith, count))

own_few : (s : List ℕ) → IsWithin bounds s → IsShort bounds 8000 (sections_form own_and_long_term s)
unfolding sections_form table_bits part_bits most_turns code_bits row_keeps presence_keeps greatest_coded greatest_ranged greatest_value has_value
own_few s within =
    let choice : Formula = Equal (Latest rpl.rpl_sps_flag) (Number 0) in
    spelling_weaker _ (λ n t. (n ≤ 1 * 4200 + (1 * 2900 + 0)) × IsWithin bounds t) (λ n t. (n ≤ 8000) × IsWithin bounds t)
    (short_then bounds (present (When choice) (form_of R) s) (sections_form (always LONG_TERM ∷ [])) (1 * 4200) (1 * 2900 + 0)
    (short_present bounds (When choice) (form_of R) 4200 s refl within struct_few.at)
    (λ t there. short_then bounds (present (When (Plain (Number 1))) (form_of LONG_TERM) t) (sections_form []) (1 * 2900) 0
    (short_present bounds (When (Plain (Number 1))) (form_of LONG_TERM) 2900 t refl there (λ u at. table_few bounds 2900 LONG_TERM u refl (omega arith) at))
    (λ u at. spelling_done u (λ size end. (size ≤ 0) × IsWithin bounds end) (omega arith, at))))
    (λ n t is. (let one = is.0 in omega (arith, one), is.1))

list_few : (is_list_0 : Bool) (structures : List Structure) (s : List ℕ) → AreFew structures → IsWithin bounds s → IsShort bounds 8100 (list_form is_list_0 structures s)
unfolding list_form choice_form chosen_form table_bits part_bits most_turns code_bits row_keeps presence_keeps greatest_coded greatest_ranged greatest_value has_value
list_few is_list_0 structures s few within =
    short_then bounds (form_of CHOICE (begun is_list_0 structures s)) (chosen_form structures) 100 8000
    (table_few bounds 100 CHOICE (begun is_list_0 structures s) refl (omega arith) (begun_within is_list_0 structures s few within))
    (λ t there. own_few (picked structures t) (picked_within structures t few there))

pub lists_few : (table : RplTable) (s : List ℕ) → AreFew table.first → AreFew table.second → IsWithin bounds s → IsShort bounds 16200 (lists_form table s)
unfolding lists_form first_form second_form table_bits part_bits row_keeps greatest_value
lists_few table s first second within =
    short_then bounds (first_form table.first s) (second_form table.second) 8100 8100
    (short_then bounds (form_of BEFORE_LIST_0 s >>= list_form true table.first) (form_of BEHIND_LIST_0) 8100 0
    (short_then bounds (form_of BEFORE_LIST_0 s) (list_form true table.first) 0 8100 (table_few bounds 0 BEFORE_LIST_0 s refl (omega arith) within) (λ t there. list_few true table.first t first there))
    (λ t there. table_few bounds 0 BEHIND_LIST_0 t refl (omega arith) there))
    (λ t there. short_then bounds (list_form false table.second t) (form_of BEHIND_LIST_1) 8100 0 (list_few false table.second t second there) (λ u at. table_few bounds 0 BEHIND_LIST_1 u refl (omega arith) at))
