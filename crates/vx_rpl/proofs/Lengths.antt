-- A structure has as many entries as its number of them says.
use Rattle.std.proofs.Common.{◌≡◌, inl, inr, ℕ, ℤ, pos, ◌<◌, ◌≤◌, ◌==◌, Bool, true, List, [], ◌∷◌, ◌++◌, length, drop, take, count_by, slice_index, slice_set, refl, ap, sym, subst, ◌∙◌, arith}
use Rattle.std.proofs.lemmas.Bool.{cases_Bool, eqb-true}
use Rattle.std.proofs.lemmas.List.{append-nil, take_all, get_or-set_same, length-set}
use Rattle.vx_bits.specs.declared.list.Item.{Item}
use Rattle.vx_table.specs.declared.rows.Term.TheVariants.{Number, Latest}
use Rattle.vx_table.specs.declared.rows.Formula.TheVariants.{Plain, Both, Either}
use Rattle.vx_table.specs.declared.rows.Formula.{Formula}
use Rattle.vx_table.specs.declared.rows.Coding.TheVariants.{Golomb}
use Rattle.vx_table.specs.declared.rows.Limits.TheVariants.{Within}
use Rattle.vx_table.specs.declared.rows.Fault.TheVariants.{Limit}
use Rattle.vx_table.specs.declared.rows.Presence.TheVariants.{When}
use Rattle.vx_table.specs.declared.rows.Cell.{Cell}
use Rattle.vx_table.specs.declared.rows.Row.{Row}
use Rattle.vx_table.specs.declared.rows.Row.TheVariants.{Field, Block, Name}
use Rattle.vx_table.specs.Scope.{fresh, natural, value}
use Rattle.vx_table.specs.Forms.{Form, done, field, ◌>>=◌, has_value, coding_at, cell_at, after, one_field, turns, present, part, form_of}
use Rattle.vx_table.specs.EachField.{EachField}
use Rattle.vx_table.specs.Loaded.{StaysBelow, row_below, code_below, range_below}
use Rattle.vx_table.specs.Spelling.{item_of, items_along}
use Rattle.vx_table.specs.Values.{Follows, to_end}
use Rattle.vx_table.specs.Depends.{Agree}
use Rattle.vx_table.specs.Claims.{hides_counter, hides_row}
use Rattle.vx_table.proofs.Blocks.{form-field}
use Rattle.vx_table.proofs.Agreeing.{agree_on, agree_outside}
use Rattle.vx_table.proofs.EachField.{each_of_rows}
use Rattle.vx_table.proofs.Joined.{parted, joined, items_joined}
use Rattle.vx_table.proofs.Loading.{tables_stay_below}
use Rattle.vx_table.proofs.Rewrites.{leaves_agree, tables_leave}
use Rattle.vx_fields.specs.declared.names.rpl.TheConstants.{ENTRY, LONG_ENTRIES, MAY_WEIGHT, IN_SPS}
use Rattle.vx_fields.specs.declared.rpl.TheConstants.{num_ref_entries, ltrp_in_header_flag}
use Rattle.vx_fields.specs.declared.sps.TheConstants.{sps_weighted_pred_flag, sps_weighted_bipred_flag, sps_long_term_ref_pics_flag}
use Rattle.vx_rpl.specs.declared.tables.TheConstants.{REF_PIC_LIST_STRUCT}
use Rattle.vx_rpl.specs.laws.Lengths.{entries_spelled, EntriesAreCounted}
use Rattle.vx_rpl.specs.Lists.{is_long}
use Rattle.vx_rpl.specs.Resolved.{entries_from}
use Rattle.vx_rpl.proofs.Turns.{There, opened, ended, entry_rows, front_alone, AreEntries, turns_are}

-- the rows from the structure's place to ltrp_in_header_flag, that flag, and the rows behind it
abbrev head_rows : List Row
head_rows = take 6 (drop 1 REF_PIC_LIST_STRUCT)

abbrev flag_rows : List Row
flag_rows = take 2 (drop 5 REF_PIC_LIST_STRUCT)

abbrev late_rows : List Row
late_rows = drop 7 REF_PIC_LIST_STRUCT

abbrev number : List ℕ
number = num_ref_entries ∷ []

-- ---- before the entries nothing but the flag

abbrev IsFlag : Cell ℕ → Type 0
IsFlag cell = (cell.field == ltrp_in_header_flag) ≡ true

flag_row : Row → Bool
flag_row (Field c) = c.field == ltrp_in_header_flag
flag_row (Block presence n) = true
flag_row (Name name formula) = true

flags_only : (form : Form (List ℕ)) (w : List ℤ) (weighted : Bool) (i : ℕ) (rest : List Item) → EachField IsFlag form → entries_from weighted i (items_along form w ++ rest) ≡ entries_from weighted i rest
unfolding item_of
flags_only (done a) w weighted i rest is = refl
flags_only (field cell goes) [] weighted i rest is = refl
flags_only (field cell goes) (v ∷ w) weighted i rest is =
    let more = flags_only (goes v) w weighted i rest (is.1 v) in
    elim (cases_Bool (has_value cell.coding)) [
      | inl valued ↦ rw (valued, eqb-true cell.field ltrp_in_header_flag is.0) more
      | inr gap ↦ rw gap more
    ]

heads : (s : List ℕ) → EachField IsFlag (form_of head_rows s)
unfolding flag_row
heads s = each_of_rows IsFlag flag_row (λ c t h. h) head_rows s refl

-- ---- the entries

late : (mid : List ℕ) (w : List ℤ) (end : List ℕ) → length mid ≡ length fresh → slice_index mid num_ref_entries ≤ 29 → Follows (form_of late_rows mid) w end
    → AreEntries (slice_index mid num_ref_entries) 0 (items_along (form_of late_rows mid) w) end
unfolding fresh form_of part present value
late mid w end size few on =
    let before : List ℕ = slice_set mid MAY_WEIGHT (value mid (Either (Latest sps_weighted_pred_flag) (Latest sps_weighted_bipred_flag))) in
    let s : List ℕ = slice_set before LONG_ENTRIES 0 in
    let agree : Agree number mid s = agree_on (agree_outside number mid MAY_WEIGHT _ refl) (agree_outside number before LONG_ENTRIES 0 refl) in
    let same : slice_index mid num_ref_entries ≡ slice_index s num_ref_entries = agree.same num_ref_entries refl in
    let none : slice_index s LONG_ENTRIES ≡ 0 = get_or-set_same before LONG_ENTRIES 0 0 (subst (λ n. LONG_ENTRIES < n) (sym (sym (agree_outside number mid MAY_WEIGHT _ refl).size ∙ size)) (omega arith)) in
    let form : Form (List ℕ) = turns (form_of entry_rows) ENTRY 0 (slice_index s num_ref_entries) s in
    let p = parted form done on in
    let are = turns_are (slice_index s num_ref_entries) s 0 (sym agree.size ∙ size) (omega (arith, same, none, few)) p.first in
    let items : items_along (form >>= done) w ≡ items_along form p.front = front_alone form done p.others (items_along form p.front) p.all p.first refl refl in
    let over : end ≡ p.mid = (ended p.second).1 in
    subst (λ e. AreEntries (slice_index mid num_ref_entries) 0 (items_along (form >>= done) w) e) (sym over)
    (subst (λ x. AreEntries (slice_index mid num_ref_entries) 0 x p.mid) (sym items)
    (subst (λ k. AreEntries k 0 (items_along form p.front) p.mid) (sym same)
    (subst (λ n. AreEntries (slice_index s num_ref_entries) n (items_along form p.front) p.mid) none are.0)))

few_entries : (s : List ℕ) → EachField (StaysBelow num_ref_entries 30) (form_of REF_PIC_LIST_STRUCT s)
unfolding has_value row_below code_below range_below
few_entries s = tables_stay_below num_ref_entries 30 REF_PIC_LIST_STRUCT s (omega arith) refl

within_fresh : num_ref_entries < length fresh
unfolding fresh
within_fresh = omega arith

-- behind the number of entries
behind_number : (weighted : Bool) (n : ℕ) (s : List ℕ) (w : List ℤ) (end : List ℕ) → length s ≡ length fresh → slice_index s num_ref_entries ≡ n → n ≤ 29
    → Follows (form_of (drop 1 REF_PIC_LIST_STRUCT) s) w end
    → (length (entries_from weighted 0 (items_along (form_of (drop 1 REF_PIC_LIST_STRUCT) s) w)) ≡ n)
    × (count_by is_long (entries_from weighted 0 (items_along (form_of (drop 1 REF_PIC_LIST_STRUCT) s) w)) ≡ slice_index end LONG_ENTRIES)
unfolding fresh form_of part hides_counter hides_row
behind_number weighted n s w end size is few on =
    let p = parted (present (When (Both (Latest sps_long_term_ref_pics_flag) (Latest IN_SPS))) (form_of flag_rows) _) (form_of late_rows) on in
    let head = joined done p.first to_end in
    let agree : Agree number s p.mid = leaves_agree number (form_of head_rows) s (p.front ++ []) p.mid (tables_leave number head_rows refl) head in
    let same : slice_index s num_ref_entries ≡ slice_index p.mid num_ref_entries = agree.same num_ref_entries refl in
    let are = late p.mid p.others end (sym agree.size ∙ size) (omega (arith, same, is, few)) p.second weighted 0 [] refl in
    let later : List Item = items_along (form_of late_rows p.mid) p.others in
    let flags = flags_only (form_of head_rows s) (p.front ++ []) weighted 0 later (heads s) in
    let items = ap (items_along (form_of (drop 1 REF_PIC_LIST_STRUCT) s)) p.all ∙ items_joined (form_of late_rows) p.others p.first in
    let shown = items_joined done [] p.first ∙ append-nil _ in
    let whole : entries_from weighted 0 (items_along (form_of (drop 1 REF_PIC_LIST_STRUCT) s) w) ≡ entries_from weighted 0 (later ++ []) =
    ap (entries_from weighted 0) items ∙ ap (λ x. entries_from weighted 0 (x ++ later)) (sym shown) ∙ flags ∙ ap (entries_from weighted 0) (sym (append-nil later)) in
    (ap length whole ∙ are.0 ∙ sym same ∙ is, ap (count_by is_long) whole ∙ omega (arith, are.1))

number_stays : (s : List ℕ) (w : List ℤ) (end : List ℕ) → Follows (form_of (drop 1 REF_PIC_LIST_STRUCT) s) w end → slice_index s num_ref_entries ≡ slice_index end num_ref_entries
unfolding fresh hides_counter hides_row
number_stays s w end on = (leaves_agree number (form_of (drop 1 REF_PIC_LIST_STRUCT)) s w end (tables_leave number (drop 1 REF_PIC_LIST_STRUCT) refl) on).same num_ref_entries refl

-- ---- the number of entries comes first

abbrev number_cell : Cell Formula
number_cell = record { field = num_ref_entries; kept = true; coding = Golomb; limits = Within (pos 0) (Plain (Number 29)) (Limit 7) }

split_first : (c : Cell Formula) (rows : List Row) (s : List ℕ) {w : List ℤ} {end : List ℕ} → Follows (form_of (Field c ∷ rows) s) w end
    → There (cell_at s c) (form_of (Field c ∷ rows) s) (λ v. form_of rows (after s (cell_at s c) v)) w end
unfolding one_field
split_first c rows s on = rw (form-field c rows s) (opened (rw (form-field c rows s) at on))

each_first : (P : Cell ℕ → Type 0) (c : Cell Formula) (rows : List Row) (s : List ℕ) → EachField P (form_of (Field c ∷ rows) s) → P (cell_at s c)
unfolding one_field
each_first P c rows s each = (rw (form-field c rows s) at each).0

abbrev IsCounted : Bool → List ℕ → List Item → Type 0
IsCounted weighted end items = (length (entries_spelled weighted items) ≡ slice_index end num_ref_entries) × (count_by is_long (entries_spelled weighted items) ≡ slice_index end LONG_ENTRIES)

counted : (weighted : Bool) (s : List ℕ) (v : ℤ) (u : List ℤ) (end : List ℕ) → length s ≡ length fresh → natural v < 30 → Follows (form_of (drop 1 REF_PIC_LIST_STRUCT) (slice_set s num_ref_entries (natural v))) u end
    → IsCounted weighted end (record { field = num_ref_entries; value = v } ∷ items_along (form_of (drop 1 REF_PIC_LIST_STRUCT) (slice_set s num_ref_entries (natural v))) u)
counted weighted s v u end size few on =
    let next : List ℕ = slice_set s num_ref_entries (natural v) in
    let kept : slice_index next num_ref_entries ≡ natural v = get_or-set_same s num_ref_entries (natural v) 0 (subst (λ n. num_ref_entries < n) (sym size) within_fresh) in
    let wide : length next ≡ length fresh = length-set s num_ref_entries (natural v) ∙ size in
    let got = behind_number weighted (natural v) next u end wide kept (omega (arith, few)) on in
    let all = take_all 29 (entries_from weighted 0 (items_along (form_of (drop 1 REF_PIC_LIST_STRUCT) next) u)) (omega (arith, got.0, few)) in
    (ap length all ∙ got.0 ∙ sym kept ∙ number_stays next u end on, ap (count_by is_long) all ∙ got.1)

pub entries_are_counted : EntriesAreCounted
unfolding after has_value coding_at item_of
entries_are_counted weighted s w end size on =
    let r = split_first number_cell (drop 1 REF_PIC_LIST_STRUCT) s on in
    let few : natural r.v < 30 = each_first (StaysBelow num_ref_entries 30) number_cell (drop 1 REF_PIC_LIST_STRUCT) s (few_entries s) refl refl r.v r.is in
    subst (IsCounted weighted end) (sym r.items) (counted weighted s r.v r.u end size few r.on)
