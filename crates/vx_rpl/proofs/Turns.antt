-- Turn by turn: the items of a structure are those of as many entries, and a header tells of each long-term one.
use Rattle.std.proofs.Common.{◌≡◌, ◌⊎◌, inl, inr, ℕ, ℤ, pos, negsuc, zero, suc, ◌+◌, ◌≤◌, ◌==◌, Bool, true, false, cond, ◌&&◌, List, [], ◌∷◌, ◌++◌, length, drop, take, slice_index, slice_set, count_by, Option, refl, ap, sym, subst, ◌∙◌, arith}
use Rattle.std.proofs.lemmas.Bool.{cases_Bool, eqb-true}
use Rattle.std.proofs.lemmas.List.{append_assoc, append-nil}
use Rattle.std.proofs.lemmas.List.Sums.{sum_by-cons}
use Rattle.vx_bits.specs.declared.list.Item.{Item}
use Rattle.vx_table.specs.declared.rows.Term.TheVariants.{Number, Latest}
use Rattle.vx_table.specs.declared.rows.Formula.{Formula}
use Rattle.vx_table.specs.declared.rows.Formula.TheVariants.{Plain, Plus, Equal, Either}
use Rattle.vx_table.specs.declared.rows.Coding.TheVariants.{Fixed}
use Rattle.vx_table.specs.declared.rows.Limits.TheVariants.{Any}
use Rattle.vx_table.specs.declared.rows.Presence.TheVariants.{When}
use Rattle.vx_table.specs.declared.rows.Cell.{Cell}
use Rattle.vx_table.specs.declared.rows.Row.{Row}
use Rattle.vx_table.specs.Scope.{fresh, natural, capped, one_if, is_set, value}
use Rattle.vx_table.specs.inner.ByType.{flag_cell}
use Rattle.vx_table.specs.Forms.{Form, done, field, ◌>>=◌, has_value, coding_at, limits_at, cell_at, after, one_field, turns, present, part, form_of}
use Rattle.vx_table.specs.EachField.{rows_pass}
use Rattle.vx_table.specs.Spelling.{HasCode, item_of, items_along}
use Rattle.vx_table.specs.Values.{IsValueOf, Follows, to_end, through}
use Rattle.vx_table.specs.Depends.{Agree}
use Rattle.vx_table.specs.Claims.{knows_formula, knows_width, knows_range, knows_presence, hides_counter, hides_row, hides, behind_field, within_block, depends, behind_rows, table_depends, behind_table}
use Rattle.vx_table.specs.Named.{named_by}
use Rattle.vx_table.specs.laws.Again.{GoesToo, shows_row}
use Rattle.vx_table.proofs.Again.{follows_again, tables_show}
use Rattle.vx_table.proofs.Agreeing.{agree_outside}
use Rattle.vx_table.proofs.Chains.{table_carries}
use Rattle.vx_table.proofs.Dependence.{inside_with_all}
use Rattle.vx_table.proofs.Groups.{agree_given}
use Rattle.vx_table.proofs.Joined.{parted, items_joined}
use Rattle.vx_table.proofs.Rewrites.{leaves_agree, tables_leave}
use Rattle.vx_fields.specs.declared.names.rpl.TheConstants.{ENTRY, LONG_ENTRIES, MAY_WEIGHT, MAY_BE_0, HAS_SIGN, IS_LONG}
use Rattle.vx_fields.specs.declared.rpl.TheConstants.{ltrp_in_header_flag, st_ref_pic_flag, abs_delta_poc_st, strp_entry_sign_flag, rpls_poc_lsb_lt, poc_lsb_lt, delta_poc_msb_cycle_present_flag, delta_poc_msb_cycle_lt}
use Rattle.vx_fields.specs.declared.sps.TheConstants.{sps_log2_max_pic_order_cnt_lsb_minus4, sps_long_term_ref_pics_flag}
use Rattle.vx_rpl.specs.declared.entry.RefEntry.{RefEntry}
use Rattle.vx_rpl.specs.declared.entry.RefEntry.TheVariants.{Short, Long}
use Rattle.vx_rpl.specs.declared.tables.TheConstants.{REF_PIC_LIST_STRUCT, LONG_TERM}
use Rattle.vx_rpl.specs.Lists.{is_long}
use Rattle.vx_rpl.specs.Resolved.{is_of_structure, entry_of, entries_from}
use Rattle.vx_rpl.specs.HeaderLists.{behind_next, behind_entries, behind_entry, behind_told}
use Rattle.vx_rpl.proofs.Entries.{entries_stop}

-- ---- at scopes that are written out

-- the values of rows at a scope go through them at each that agrees on what they read, and leave scopes that agree
pub along : (given : List ℕ) (rows : List Row) (s t : List ℕ) {w : List ℤ} {end : List ℕ} → table_depends (given ++ named_by rows) given rows ≡ true
    → rows_pass (shows_row (given ++ named_by rows)) rows ≡ true → Agree given s t → Follows (form_of rows s) w end
    → GoesToo (behind_table (given ++ named_by rows) given rows) (form_of rows s) (form_of rows t) w end
along given rows s t {w} {end} test shows agree on =
    let all : List ℕ = given ++ named_by rows in
    let carries = table_carries all given rows test in
    let shown = tables_show all rows shows in
    follows_again all (behind_table all given rows) (form_of rows s) (form_of rows t) w end (carries.alike (inside_with_all given (named_by rows)) s t agree) (shown.at s) (shown.at t) on

pub ended : {s : List ℕ} {w : List ℤ} {end : List ℕ} → Follows (done s) w end → (w ≡ []) × (end ≡ s)
ended to_end = (refl, refl)

-- what goes through a block of one field and on
pub record There (cell : Cell ℕ) (form : Form (List ℕ)) (goes : ℤ → Form (List ℕ)) (w : List ℤ) (end : List ℕ) : Type 0 where
  pub v : ℤ
  pub u : List ℤ
  pub is : IsValueOf cell v
  pub on : Follows (goes v) u end
  pub items : items_along form w ≡ item_of cell v ++ items_along (goes v) u

pub opened : {cell : Cell ℕ} {goes : ℤ → Form (List ℕ)} {w : List ℤ} {end : List ℕ} → Follows (field cell goes) w end → There cell (field cell goes) goes w end
opened (through {v} {w} is on) = record { v = v; u = w; is = is; on = on; items = refl }

-- the block is absent or there
abbrev pub Passes : Formula → Cell Formula → List ℕ → (List ℕ → Form (List ℕ)) → Form (List ℕ) → List ℤ → List ℕ → Type 0
Passes holds cell s next form w end = ((value s holds ≡ 0) × Follows (next s) w end × (items_along form w ≡ items_along (next s) w))
    ⊎ (((value s holds == 0) ≡ false) × There (cell_at s cell) form (λ v. next (after s (cell_at s cell) v)) w end)

pub optional : (holds : Formula) (cell : Cell Formula) (s : List ℕ) (next : List ℕ → Form (List ℕ)) {w : List ℤ} {end : List ℕ}
    → Follows (present (When holds) (λ t. one_field t cell) s >>= next) w end → Passes holds cell s next (present (When holds) (λ t. one_field t cell) s >>= next) w end
unfolding present one_field
optional holds cell s next {w} {end} on = elim (cases_Bool (value s holds == 0)) [
  | inl none ↦ inl (eqb-true (value s holds) 0 none, rw none at on, rw none refl)
  | inr some ↦ inr (some, rw some (opened (rw some at on)))
]

-- ---- what a header tells of a long-term entry

abbrev pub begins : ℕ → List Item → Bool
begins of [] = false
begins of (item ∷ items) = item.field == of

pub behind_other : (of : ℕ) (items : List Item) → begins of items ≡ false → behind_next of items ≡ items
behind_other of [] none = refl
behind_other of (item ∷ items) none = rw none refl

abbrev long_rows : List Row
long_rows = drop 1 LONG_TERM

abbrev long_given : List ℕ
long_given = sps_log2_max_pic_order_cnt_lsb_minus4 ∷ ltrp_in_header_flag ∷ []

long_at : ℕ → ℕ → List ℕ
long_at b h = slice_set (slice_set fresh sps_log2_max_pic_order_cnt_lsb_minus4 b) ltrp_in_header_flag h

-- its items are taken whole, where no cycle follows
abbrev TakesLong : List Item → Type 0
TakesLong items = (lsb : ℕ) (msb : Option ℕ) (rest : List Item) → begins delta_poc_msb_cycle_lt rest ≡ false
    → (behind_entry (Long lsb msb) (items ++ rest) ≡ rest) × (begins delta_poc_msb_cycle_lt (items ++ rest) ≡ false)

-- those of the cycle
record TakesCycle (items : List Item) : Type 0 where
  taken : (rest : List Item) → begins delta_poc_msb_cycle_lt rest ≡ false → behind_next delta_poc_msb_cycle_lt (behind_next delta_poc_msb_cycle_present_flag (items ++ rest)) ≡ rest
  no_low : (rest : List Item) → behind_next poc_lsb_lt (items ++ rest) ≡ items ++ rest
  no_cycle : (rest : List Item) → begins delta_poc_msb_cycle_lt (items ++ rest) ≡ false

abbrev cycle_rows : List Row
cycle_rows = drop 3 LONG_TERM

abbrev low_cell : ℕ → Cell Formula
low_cell of = record { field = of; kept = true; coding = Fixed (Plus (Latest sps_log2_max_pic_order_cnt_lsb_minus4) (Number 4)); limits = Any }

cycle_takes : (b h x : ℕ) (w : List ℤ) (end : List ℕ) → Follows (form_of cycle_rows (slice_set (long_at b h) poc_lsb_lt x)) w end → TakesCycle (items_along (form_of cycle_rows (slice_set (long_at b h) poc_lsb_lt x)) w)
unfolding fresh long_at form_of part present one_field after has_value coding_at limits_at value natural HasCode item_of
cycle_takes b h x _ _ (through {v = pos zero} is to_end) =
    record { taken = λ rest none. behind_other delta_poc_msb_cycle_lt rest none; no_low = λ rest. refl; no_cycle = λ rest. refl }
cycle_takes b h x _ _ (through {v = pos (suc zero)} is (through more to_end)) =
    record { taken = λ rest none. refl; no_low = λ rest. refl; no_cycle = λ rest. refl }
cycle_takes b h x _ _ (through {v = pos (suc (suc n))} is more) = absurd (omega (arith, is.code))
cycle_takes b h x _ _ (through {v = negsuc n} is more) = absurd is.code

long_takes : (b h : ℕ) (w : List ℤ) (end : List ℕ) → Follows (form_of long_rows (long_at b h)) w end → TakesLong (items_along (form_of long_rows (long_at b h)) w)
unfolding fresh long_at form_of part one_field after has_value coding_at item_of
long_takes b h w end on = elim (optional (Plain (Latest ltrp_in_header_flag)) (low_cell poc_lsb_lt) (long_at b h) (form_of cycle_rows) on) [
  | inl q ↦
      let cycle = cycle_takes b h 0 w end q.1 in
      subst TakesLong (sym q.2) (λ lsb msb rest none. (
        ap (λ x. behind_next delta_poc_msb_cycle_lt (behind_next delta_poc_msb_cycle_present_flag x)) (cycle.no_low rest) ∙ cycle.taken rest none,
        cycle.no_cycle rest,
      ))
  | inr q ↦
      let r = q.1 in
      let cycle = cycle_takes b h (natural r.v) r.u end r.on in
      subst TakesLong (sym r.items) (λ lsb msb rest none. (cycle.taken rest none, refl))
]

-- the size of a scope stays
size_stays : (rows : List Row) (s : List ℕ) {w : List ℤ} {end : List ℕ} → hides [] rows ≡ true → length s ≡ length fresh → Follows (form_of rows s) w end → length end ≡ length fresh
size_stays rows s {w} {end} hide size on = sym (leaves_agree [] (form_of rows) s w end (tables_leave [] rows hide) on).size ∙ size

-- at each scope
long_turn : (s : List ℕ) (w : List ℤ) (end : List ℕ) → length s ≡ length fresh → Follows (form_of long_rows s) w end → TakesLong (items_along (form_of long_rows s) w) × (length end ≡ length fresh)
unfolding fresh long_at has_value knows_formula knows_width knows_range knows_presence hides_counter hides_row behind_field within_block depends behind_rows table_depends behind_table shows_row
long_turn s w end size on =
    let t : List ℕ = long_at (slice_index s sps_log2_max_pic_order_cnt_lsb_minus4) (slice_index s ltrp_in_header_flag) in
    let agree : Agree long_given s t = agree_given long_given size (refl, (refl, tt)) in
    let again = along long_given long_rows s t refl refl agree on in
    let takes = long_takes _ _ w again.last again.follows in
    (subst TakesLong again.items takes, size_stays long_rows s refl size on)

-- ---- the items of an entry

abbrev it : ℕ → ℤ → Item
it of v = record { field = of; value = v }

data EntryItems : Bool → List Item → Type 0 where
  unsigned : (a : ℤ) → EntryItems false (it abs_delta_poc_st a ∷ [])
  signed : (a g : ℤ) → EntryItems false (it abs_delta_poc_st a ∷ it strp_entry_sign_flag g ∷ [])
  low_there : EntryItems true (it st_ref_pic_flag (pos 0) ∷ [])
  low_here : (x : ℤ) → EntryItems true (it st_ref_pic_flag (pos 0) ∷ it rpls_poc_lsb_lt x ∷ [])
  flagged : {long : Bool} {items : List Item} → EntryItems long items → EntryItems long (it st_ref_pic_flag (pos 1) ∷ items)

-- they are those of one entry
pub record First (long : Bool) (weighted : Bool) (i : ℕ) (items rest : List Item) : Type 0 where
  pub entry : RefEntry
  pub is : entries_from weighted i (items ++ rest) ≡ entry ∷ entries_from weighted (i + 1) rest
  pub kind : is_long entry ≡ long
  pub behind_it : behind_entries (items ++ rest) ≡ behind_entries rest

first_entry : (long weighted : Bool) (i : ℕ) (items rest : List Item) → EntryItems long items → First long weighted i items rest
unfolding natural
first_entry _ weighted i _ rest (unsigned a) = record { entry = entry_of weighted i (it abs_delta_poc_st a) rest; is = refl; kind = refl; behind_it = refl }
first_entry _ weighted i _ rest (signed a g) = record { entry = entry_of weighted i (it abs_delta_poc_st a) (it strp_entry_sign_flag g ∷ rest); is = refl; kind = refl; behind_it = refl }
first_entry _ weighted i _ rest low_there = record { entry = entry_of weighted i (it st_ref_pic_flag (pos 0)) rest; is = refl; kind = refl; behind_it = refl }
first_entry _ weighted i _ rest (low_here x) = record { entry = entry_of weighted i (it st_ref_pic_flag (pos 0)) (it rpls_poc_lsb_lt x ∷ rest); is = refl; kind = refl; behind_it = refl }
first_entry long weighted i _ rest (flagged {items} more) =
    let there = first_entry long weighted i items rest more in
    record { entry = there.entry; is = there.is; kind = there.kind; behind_it = there.behind_it }

-- ---- the turn of an entry

abbrev pub entry_rows : List Row
entry_rows = drop 10 REF_PIC_LIST_STRUCT

-- behind the flag that says of which kind it is, and behind what a short-term one has
abbrev kind_rows : List Row
kind_rows = drop 13 REF_PIC_LIST_STRUCT

abbrev sign_rows : List Row
sign_rows = take 4 (drop 15 REF_PIC_LIST_STRUCT)

abbrev low_rows : List Row
low_rows = drop 19 REF_PIC_LIST_STRUCT

abbrev entry_given : List ℕ
entry_given = sps_log2_max_pic_order_cnt_lsb_minus4 ∷ sps_long_term_ref_pics_flag ∷ ltrp_in_header_flag ∷ MAY_WEIGHT ∷ ENTRY ∷ LONG_ENTRIES ∷ []

entry_at : ℕ → ℕ → ℕ → ℕ → ℕ → ℕ → List ℕ
entry_at b l h m e n =
    slice_set (slice_set (slice_set (slice_set (slice_set (slice_set fresh sps_log2_max_pic_order_cnt_lsb_minus4 b) sps_long_term_ref_pics_flag l) ltrp_in_header_flag h) MAY_WEIGHT m) ENTRY e) LONG_ENTRIES n

-- behind the sign of a short-term entry
signed_at : ℕ → ℕ → ℕ → ℕ → ℕ → ℕ → ℕ → ℕ → ℕ → List ℕ
signed_at b l h m e n a x y = slice_set (slice_set (slice_set (slice_set (entry_at b l h m e n) st_ref_pic_flag 1) abs_delta_poc_st a) MAY_BE_0 x) HAS_SIGN y

record Turn (n : ℕ) (items : List Item) (end : List ℕ) : Type 0 where
  long : Bool
  are : EntryItems long items
  counted : slice_index end LONG_ENTRIES ≡ capped (n + one_if long)

-- no low bits of a short-term entry
either_end : (b : Bool) (s : List ℕ) {w : List ℤ} {end : List ℕ} → Follows (cond b (done s) (done s) >>= done) w end → (items_along (cond b (done s) (done s) >>= done) w ≡ []) × (end ≡ s)
either_end true s to_end = (refl, refl)
either_end false s to_end = (refl, refl)

short_end : (b l h m e n a x y g : ℕ) (w : List ℤ) (end : List ℕ) → Follows (form_of low_rows (slice_set (signed_at b l h m e n a x y) strp_entry_sign_flag g)) w end
    → (items_along (form_of low_rows (slice_set (signed_at b l h m e n a x y) strp_entry_sign_flag g)) w ≡ []) × (slice_index end LONG_ENTRIES ≡ capped (n + 0))
unfolding fresh entry_at signed_at form_of part present value
short_end b l h m e n a x y g w end on =
    let s : List ℕ = slice_set (slice_set (slice_set (signed_at b l h m e n a x y) strp_entry_sign_flag g) IS_LONG 0) LONG_ENTRIES (capped (n + 0)) in
    let there = either_end (one_if (h == 0) == 0) s on in
    (there.0, ap (λ t. slice_index t LONG_ENTRIES) there.1)

short_behind : (b l h m e n a x y g : ℕ) (mid : List ℕ) (w : List ℤ) (end : List ℕ) → mid ≡ slice_set (signed_at b l h m e n a x y) strp_entry_sign_flag g → Follows (form_of low_rows mid) w end
    → (items_along (form_of low_rows mid) w ≡ []) × (slice_index end LONG_ENTRIES ≡ capped (n + 0))
short_behind b l h m e n a x y g mid w end same on =
    subst (λ t. Follows (form_of low_rows t) w end → (items_along (form_of low_rows t) w ≡ []) × (slice_index end LONG_ENTRIES ≡ capped (n + 0))) (sym same) (λ there. short_end b l h m e n a x y g w end there) on

-- the items of two forms of which the second has none
pub front_alone : (form : Form (List ℕ)) (next : List ℕ → Form (List ℕ)) {w front : List ℤ} (others : List ℤ) {mid : List ℕ} (items : List Item) → w ≡ front ++ others → Follows form front mid
    → items_along form front ≡ items → items_along (next mid) others ≡ [] → items_along (form >>= next) w ≡ items
front_alone form next {w} {front} others {mid} items all on first second =
    ap (items_along (form >>= next)) all ∙ items_joined next others on ∙ ap (λ x. x ++ items_along (next mid) others) first ∙ ap (λ x. items ++ x) second ∙ append-nil items

-- behind its distance
signs : (b l h m e n : ℕ) (a : ℤ) (w : List ℤ) (end : List ℕ) → let x : ℕ = one_if (is_set m && is_set e) in let y : ℕ = one_if (x == 0) in
    let s : List ℕ = signed_at b l h m e n (natural a) x y in
    Follows ((present (When (Either (Latest abs_delta_poc_st) (Latest HAS_SIGN))) (λ t. one_field t (flag_cell strp_entry_sign_flag true)) s >>= done) >>= form_of low_rows) w end
    → Turn n (it abs_delta_poc_st a ∷ items_along ((present (When (Either (Latest abs_delta_poc_st) (Latest HAS_SIGN))) (λ t. one_field t (flag_cell strp_entry_sign_flag true)) s >>= done) >>= form_of low_rows) w) end
unfolding fresh entry_at signed_at after has_value coding_at item_of
signs b l h m e n a w end on =
    let x : ℕ = one_if (is_set m && is_set e) in
    let y : ℕ = one_if (x == 0) in
    let s : List ℕ = signed_at b l h m e n (natural a) x y in
    let form : Form (List ℕ) = present (When (Either (Latest abs_delta_poc_st) (Latest HAS_SIGN))) (λ t. one_field t (flag_cell strp_entry_sign_flag true)) s >>= done in
    let p = parted form (form_of low_rows) on in
    elim (optional (Either (Latest abs_delta_poc_st) (Latest HAS_SIGN)) (flag_cell strp_entry_sign_flag true) s done p.first) [
      | inl q ↦
          let fin = short_behind b l h m e n (natural a) x y 0 p.mid p.others end ((ended q.1).1) p.second in
          let all = front_alone form (form_of low_rows) p.others [] p.all p.first q.2 fin.0 in
          record { long = false; are = subst (λ i. EntryItems false (it abs_delta_poc_st a ∷ i)) (sym all) (unsigned a); counted = fin.1 }
      | inr q ↦
          let r = q.1 in
          let fin = short_behind b l h m e n (natural a) x y (natural r.v) p.mid p.others end ((ended r.on).1) p.second in
          let all = front_alone form (form_of low_rows) p.others (it strp_entry_sign_flag r.v ∷ []) p.all p.first r.items fin.0 in
          record { long = false; are = subst (λ i. EntryItems false (it abs_delta_poc_st a ∷ i)) (sym all) (signed a r.v); counted = fin.1 }
    ]

short : (b l h m e n : ℕ) (w : List ℤ) (end : List ℕ) → Follows (form_of kind_rows (slice_set (entry_at b l h m e n) st_ref_pic_flag 1)) w end
    → Turn n (items_along (form_of kind_rows (slice_set (entry_at b l h m e n) st_ref_pic_flag 1)) w) end
unfolding fresh entry_at signed_at form_of part present one_field after has_value coding_at limits_at value item_of
short b l h m e n _ end (through {v = a} {w} is on) = signs b l h m e n a w end on

-- a long-term entry
long : (b l h m e n : ℕ) (w : List ℤ) (end : List ℕ) → Follows (form_of kind_rows (slice_set (entry_at b l h m e n) st_ref_pic_flag 0)) w end
    → Turn n (it st_ref_pic_flag (pos 0) ∷ items_along (form_of kind_rows (slice_set (entry_at b l h m e n) st_ref_pic_flag 0)) w) end
unfolding fresh entry_at form_of part present one_field after has_value coding_at limits_at value item_of
long b l h m e n w end on =
    let s : List ℕ = slice_set (slice_set (slice_set (entry_at b l h m e n) st_ref_pic_flag 0) IS_LONG 1) LONG_ENTRIES (capped (n + 1)) in
    elim (optional (Equal (Latest ltrp_in_header_flag) (Number 0)) (low_cell rpls_poc_lsb_lt) s done on) [
      | inl q ↦ record { long = true; are = subst (λ u. EntryItems true (it st_ref_pic_flag (pos 0) ∷ u)) (sym q.2) low_there; counted = ap (λ t. slice_index t LONG_ENTRIES) (ended q.1).1 }
      | inr q ↦
          let r = q.1 in
          record { long = true; are = subst (λ u. EntryItems true (it st_ref_pic_flag (pos 0) ∷ u)) (sym r.items) (low_here r.v); counted = ap (λ t. slice_index t LONG_ENTRIES) (ended r.on).1 }
    ]

by_flag : (b l h m e n : ℕ) (v : ℤ) (u : List ℤ) (end : List ℕ) → HasCode (Fixed 1) v → Follows (form_of kind_rows (slice_set (entry_at b l h m e n) st_ref_pic_flag (natural v))) u end
    → Turn n (it st_ref_pic_flag v ∷ items_along (form_of kind_rows (slice_set (entry_at b l h m e n) st_ref_pic_flag (natural v))) u) end
unfolding natural HasCode
by_flag b l h m e n (pos zero) u end is on = long b l h m e n u end on
by_flag b l h m e n (pos (suc zero)) u end is on =
    let t = short b l h m e n u end on in
    record { long = t.long; are = flagged t.are; counted = t.counted }
by_flag b l h m e n (pos (suc (suc v))) u end is on = absurd (omega (arith, is))
by_flag b l h m e n (negsuc v) u end is on = absurd is

turn_at : (b l h m e n : ℕ) (w : List ℤ) (end : List ℕ) → Follows (form_of entry_rows (entry_at b l h m e n)) w end → Turn n (items_along (form_of entry_rows (entry_at b l h m e n)) w) end
unfolding fresh entry_at form_of part one_field after has_value coding_at limits_at value item_of
turn_at b l h m e n w end on = elim (optional (Plain (Latest sps_long_term_ref_pics_flag)) (flag_cell st_ref_pic_flag true) (slice_set (entry_at b l h m e n) st_ref_pic_flag 1) (form_of kind_rows) on) [
  | inl q ↦
      let t = short b l h m e n w end q.1 in
      record { long = t.long; are = subst (EntryItems t.long) (sym q.2) t.are; counted = t.counted }
  | inr q ↦
      let r = q.1 in
      let t = by_flag b l h m e n r.v r.u end r.is.code r.on in
      record { long = t.long; are = subst (EntryItems t.long) (sym r.items) t.are; counted = t.counted }
]

-- at each scope
entry_turn : (s : List ℕ) (w : List ℤ) (end : List ℕ) → length s ≡ length fresh → Follows (form_of entry_rows s) w end
    → Turn (slice_index s LONG_ENTRIES) (items_along (form_of entry_rows s) w) end × (length end ≡ length fresh)
unfolding fresh entry_at has_value knows_formula knows_width knows_range knows_presence hides_counter hides_row behind_field within_block depends behind_rows table_depends behind_table shows_row
entry_turn s w end size on =
    let t : List ℕ = entry_at (slice_index s sps_log2_max_pic_order_cnt_lsb_minus4) (slice_index s sps_long_term_ref_pics_flag) (slice_index s ltrp_in_header_flag) (slice_index s MAY_WEIGHT) (slice_index s ENTRY) (slice_index s LONG_ENTRIES) in
    let agree : Agree entry_given s t = agree_given entry_given size (refl, (refl, (refl, (refl, (refl, (refl, tt)))))) in
    let again = along entry_given entry_rows s t refl refl agree on in
    let got = turn_at _ _ _ _ _ _ w again.last again.follows in
    (record { long = got.long; are = subst (EntryItems got.long) again.items got.are; counted = again.agree.same LONG_ENTRIES refl ∙ got.counted }, size_stays entry_rows s refl size on)

-- ---- so many turns

one_most : (b : Bool) → one_if b ≤ 1
one_most true = omega arith
one_most false = omega arith

sum_more : (n c o m e : ℕ) → m ≡ n + o → m + c ≡ e → n + (o + c) ≡ e
sum_more n c o m e first more = omega (arith, first, more)

count_cons : (entry : RefEntry) (entries : List RefEntry) → count_by is_long (entry ∷ entries) ≡ one_if (is_long entry) + count_by is_long entries
count_cons entry entries = sum_by-cons (λ x. cond (is_long x) 1 0) entry entries

abbrev pub starts : List Item → Bool
starts [] = false
starts (item ∷ items) = is_of_structure item

-- the items are those of so many entries, of which some are long-term ones
abbrev pub AreEntries : ℕ → ℕ → List Item → List ℕ → Type 0
AreEntries k n items end = (weighted : Bool) (i : ℕ) (rest : List Item) → starts rest ≡ false
    → (length (entries_from weighted i (items ++ rest)) ≡ k) × (n + count_by is_long (entries_from weighted i (items ++ rest)) ≡ slice_index end LONG_ENTRIES)
    × (behind_entries (items ++ rest) ≡ rest)

none_from : (weighted : Bool) (i : ℕ) (rest : List Item) → starts rest ≡ false → (entries_from weighted i rest ≡ []) × (behind_entries rest ≡ rest)
none_from weighted i [] stop = (refl, refl)
none_from weighted i (item ∷ rest) stop = (entries_stop weighted i item rest stop, rw stop refl)

pub turns_are : (k : ℕ) (s : List ℕ) (turn : ℕ) {w : List ℤ} {end : List ℕ} → length s ≡ length fresh → slice_index s LONG_ENTRIES + k ≤ 29
    → Follows (turns (form_of entry_rows) ENTRY turn k s) w end → AreEntries k (slice_index s LONG_ENTRIES) (items_along (turns (form_of entry_rows) ENTRY turn k s) w) end × (length end ≡ length fresh)
unfolding turns fresh
turns_are zero s turn size few to_end =
    (λ weighted i rest stop. let none = none_from weighted i rest stop in (ap length none.0, ap (λ x. slice_index s LONG_ENTRIES + count_by is_long x) none.0 ∙ omega arith, none.1), size)
turns_are (suc k) s turn {w} {end} size few on =
    let before : List ℕ = slice_set s ENTRY turn in
    let agree = agree_outside (LONG_ENTRIES ∷ []) s ENTRY turn refl in
    let same : slice_index s LONG_ENTRIES ≡ slice_index before LONG_ENTRIES = agree.same LONG_ENTRIES refl in
    let p = parted (form_of entry_rows before) (turns (form_of entry_rows) ENTRY (turn + 1) k) on in
    let one = entry_turn before p.front p.mid (sym agree.size ∙ size) p.first in
    let got = one.0 in
    let front : List Item = items_along (form_of entry_rows before) p.front in
    let later : List Item = items_along (turns (form_of entry_rows) ENTRY (turn + 1) k p.mid) p.others in
    let counted : slice_index p.mid LONG_ENTRIES ≡ slice_index s LONG_ENTRIES + one_if got.long = omega (arith, got.counted, same, few, one_most got.long) in
    let more = turns_are k p.mid (turn + 1) one.1 (omega (arith, counted, few, one_most got.long)) p.second in
    let items : items_along (turns (form_of entry_rows) ENTRY turn (suc k) s) w ≡ front ++ later = ap (items_along (turns (form_of entry_rows) ENTRY turn (suc k) s)) p.all ∙ items_joined (turns (form_of entry_rows) ENTRY (turn + 1) k) p.others p.first in (
      subst (λ x. AreEntries (suc k) (slice_index s LONG_ENTRIES) x end) (sym items) (λ weighted i rest stop.
          let here = first_entry got.long weighted i front (later ++ rest) got.are in
          let then = more.0 weighted (i + 1) rest stop in
          let assoc = append_assoc front later rest in
          let whole : entries_from weighted i ((front ++ later) ++ rest) ≡ here.entry ∷ entries_from weighted (i + 1) (later ++ rest) = ap (entries_from weighted i) assoc ∙ here.is in (
            ap length whole ∙ ap (λ n. suc n) then.0,
            ap (λ x. slice_index s LONG_ENTRIES + count_by is_long x) whole
                ∙ ap (λ n. slice_index s LONG_ENTRIES + n) (count_cons here.entry (entries_from weighted (i + 1) (later ++ rest)) ∙ ap (λ b. one_if b + count_by is_long (entries_from weighted (i + 1) (later ++ rest))) here.kind)
                ∙ sum_more (slice_index s LONG_ENTRIES) _ (one_if got.long) _ _ counted then.1,
            ap behind_entries assoc ∙ here.behind_it ∙ then.2,
          )),
      more.1,
    )

-- ---- what a header tells of the long-term entries of a list

pub long_turns : (entries : List RefEntry) (n : ℕ) (s : List ℕ) (turn : ℕ) (rest : List Item) {w : List ℤ} {end : List ℕ} → n ≡ count_by is_long entries → length s ≡ length fresh
    → Follows (turns (form_of long_rows) ENTRY turn n s) w end → begins delta_poc_msb_cycle_lt rest ≡ false
    → (behind_told entries (items_along (turns (form_of long_rows) ENTRY turn n s) w ++ rest) ≡ rest)
    × (begins delta_poc_msb_cycle_lt (items_along (turns (form_of long_rows) ENTRY turn n s) w ++ rest) ≡ false)
unfolding turns
long_turns [] zero s turn rest is size to_end none = (refl, none)
long_turns [] (suc n) s turn rest is size on none = absurd (omega (arith, is))
long_turns (Short abs sign ∷ entries) n s turn rest is size on none = long_turns entries n s turn rest (omega (arith, is, count_cons (Short abs sign) entries)) size on none
long_turns (Long lsb msb ∷ entries) zero s turn rest is size on none = absurd (omega (arith, is, count_cons (Long lsb msb) entries))
long_turns (Long lsb msb ∷ entries) (suc n) s turn rest {w} is size on none =
    let before : List ℕ = slice_set s ENTRY turn in
    let next : List ℕ → Form (List ℕ) = turns (form_of long_rows) ENTRY (turn + 1) n in
    let p = parted (form_of long_rows before) next on in
    let one = long_turn before p.front p.mid (sym (agree_outside [] s ENTRY turn refl).size ∙ size) p.first in
    let front : List Item = items_along (form_of long_rows before) p.front in
    let later : List Item = items_along (next p.mid) p.others in
    let more = long_turns entries n p.mid (turn + 1) rest (omega (arith, is, count_cons (Long lsb msb) entries)) one.1 p.second none in
    let items : items_along (form_of long_rows before >>= next) w ++ rest ≡ front ++ (later ++ rest)
    = ap (λ x. x ++ rest) (ap (items_along (form_of long_rows before >>= next)) p.all ∙ items_joined next p.others p.first) ∙ append_assoc front later rest in
    let takes = one.0 lsb msb (later ++ rest) more.1 in
    (ap (λ x. behind_told entries (behind_entry (Long lsb msb) x)) items ∙ ap (behind_told entries) takes.0 ∙ more.0, ap (begins delta_poc_msb_cycle_lt) items ∙ takes.1)
