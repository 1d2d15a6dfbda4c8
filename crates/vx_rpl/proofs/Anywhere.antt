-- A structure is written the same wherever it stands: what differs is told by its items.
use Rattle.std.proofs.Common.{◌≡◌, inl, inr, ℕ, ℤ, pos, ◌+◌, Bool, true, false, not, ◌==◌, nat_lt, IsFalse, List, [], ◌∷◌, ◌++◌, length, drop, slice_set, refl, ap, sym, subst, ◌∙◌}
use Rattle.std.proofs.lemmas.Bool.{cases_Bool, not-true, eqb-true}
use Rattle.vx_bits.specs.declared.list.Item.{Item}
use Rattle.vx_table.specs.declared.rows.Coding.TheVariants.{Golomb}
use Rattle.vx_table.specs.declared.rows.Fault.TheVariants.{Limit}
use Rattle.vx_table.specs.declared.rows.Limits.TheVariants.{Within}
use Rattle.vx_table.specs.declared.rows.Cell.{Cell}
use Rattle.vx_table.specs.declared.rows.Row.{Row}
use Rattle.vx_table.specs.declared.rows.Row.TheVariants.{Field, Block, Name}
use Rattle.vx_table.specs.Scope.{fresh, natural, one_if, value}
use Rattle.vx_table.specs.Forms.{Form, done, field, has_value, coding_at, limits_at, after, one_field, turns, present, part, form_of}
use Rattle.vx_table.specs.EachField.{EachField, rows_pass}
use Rattle.vx_table.specs.Spelling.{code_of, item_of, items_along}
use Rattle.vx_table.specs.Values.{IsValueOf, Follows, to_end, through}
use Rattle.vx_table.specs.Depends.{has, Agree}
use Rattle.vx_table.specs.Claims.{knows_formula, knows_width, knows_range, knows_presence, hides_counter, hides_row, behind_field, within_block, depends, table_depends, behind_table}
use Rattle.vx_table.specs.Named.{named_by}
use Rattle.vx_table.specs.laws.Again.{shows_row}
use Rattle.vx_table.proofs.Agreeing.{agree_back, agree_on, agree_outside}
use Rattle.vx_table.proofs.Again.{follows_again, tables_show}
use Rattle.vx_table.proofs.Chains.{table_carries}
use Rattle.vx_table.proofs.Dependence.{inside_with_all}
use Rattle.vx_table.proofs.EachField.{each_of_rows}
use Rattle.vx_fields.specs.declared.names.rpl.TheConstants.{NUM_STRUCTURES, STRUCTURE, IN_SPS, IN_HEADER}
use Rattle.vx_fields.specs.declared.rpl.TheConstants.{num_ref_entries, ltrp_in_header_flag}
use Rattle.vx_fields.specs.declared.sps.TheConstants.{sps_log2_max_pic_order_cnt_lsb_minus4, sps_weighted_pred_flag, sps_weighted_bipred_flag, sps_long_term_ref_pics_flag}
use Rattle.vx_rpl.specs.declared.numbers.RplNumbers.{RplNumbers}
use Rattle.vx_rpl.specs.declared.tables.TheConstants.{REF_PIC_LIST_STRUCT}
use Rattle.vx_rpl.specs.Numbers.{lists_scope, structure_scope}
use Rattle.vx_rpl.specs.Written.{is_second, own_scope, GoAlike, structure_at, StructuresWrittenAlike}
use Rattle.vx_rpl.proofs.Carrying.{set_keeps}

-- the rows behind the number of entries and the structure's place, and those behind ltrp_in_header_flag
abbrev tail_rows : List Row
tail_rows = drop 2 REF_PIC_LIST_STRUCT

abbrev entry_rows : List Row
entry_rows = drop 7 REF_PIC_LIST_STRUCT

abbrev tail_reads : List ℕ
tail_reads = sps_log2_max_pic_order_cnt_lsb_minus4 ∷ sps_weighted_pred_flag ∷ sps_weighted_bipred_flag ∷ sps_long_term_ref_pics_flag ∷ num_ref_entries ∷ IN_SPS ∷ []

abbrev entries_read : List ℕ
entries_read = sps_log2_max_pic_order_cnt_lsb_minus4 ∷ sps_weighted_pred_flag ∷ sps_weighted_bipred_flag ∷ sps_long_term_ref_pics_flag ∷ num_ref_entries ∷ ltrp_in_header_flag ∷ []

-- what goes through rows at a scope goes through them at each that agrees on what they read
again : (given : List ℕ) (rows : List Row) (s t : List ℕ) (w : List ℤ) (end : List ℕ) → table_depends (given ++ named_by rows) given rows ≡ true
    → rows_pass (shows_row (given ++ named_by rows)) rows ≡ true → Agree given s t → Follows (form_of rows s) w end → GoAlike (form_of rows s) (form_of rows t) w
again given rows s t w end test shows agree on =
    let all : List ℕ = given ++ named_by rows in
    let carries = table_carries all given rows test in
    let shown = tables_show all rows shows in
    let goes = follows_again all (behind_table all given rows) (form_of rows s) (form_of rows t) w end (carries.alike (inside_with_all given (named_by rows)) s t agree) (shown.at s) (shown.at t) on in
    record { end = goes.last; follows = goes.follows; items = goes.items; bits = goes.bits }

tail_again : (s t : List ℕ) (w : List ℤ) (end : List ℕ) → Agree tail_reads s t → Follows (form_of tail_rows s) w end → GoAlike (form_of tail_rows s) (form_of tail_rows t) w
unfolding fresh has_value knows_formula knows_width knows_range knows_presence hides_counter hides_row behind_field within_block depends table_depends shows_row
tail_again s t w end agree on = again tail_reads tail_rows s t w end refl refl agree on

entries_again : (s t : List ℕ) (w : List ℤ) (end : List ℕ) → Agree entries_read s t → Follows (form_of entry_rows s) w end → GoAlike (form_of entry_rows s) (form_of entry_rows t) w
unfolding fresh has_value knows_formula knows_width knows_range knows_presence hides_counter hides_row behind_field within_block depends table_depends shows_row
entries_again s t w end agree on = again entries_read entry_rows s t w end refl refl agree on

-- no entry has an ltrp_in_header_flag
is_first : ℕ → List Item → Bool
is_first of [] = false
is_first of (item ∷ items) = item.field == of

abbrev IsOther : Cell ℕ → Type 0
IsOther cell = (cell.field == ltrp_in_header_flag) ≡ false

other_row : Row → Bool
other_row (Field c) = not (c.field == ltrp_in_header_flag)
other_row (Block presence n) = true
other_row (Name name formula) = true

first_other : (form : Form (List ℕ)) (w : List ℤ) → EachField IsOther form → is_first ltrp_in_header_flag (items_along form w) ≡ false
unfolding is_first item_of
first_other (done a) w is = refl
first_other (field cell goes) [] is = refl
first_other (field cell goes) (v ∷ w) is = elim (cases_Bool (has_value cell.coding)) [
  | inl valued ↦ rw valued is.0
  | inr gap ↦ rw gap (first_other (goes v) w (is.1 v))
]

entries_other : (s : List ℕ) (w : List ℤ) → is_first ltrp_in_header_flag (items_along (form_of entry_rows s) w) ≡ false
unfolding other_row
entries_other s w = first_other (form_of entry_rows s) w (each_of_rows IsOther other_row (λ c t h. not-true (c.field == ltrp_in_header_flag) h) entry_rows s refl)

second_is : (of : ℕ) (item : Item) (items : List Item) → is_second of (item ∷ items) ≡ is_first of items
unfolding is_first
second_is of item [] = refl
second_is of item (next ∷ items) = refl

-- ---- scopes

-- behind the number of entries, where the structure is one of an SPS or not, and before its entries
abbrev at_tail : RplNumbers → ℕ → ℕ → ℕ → ℕ → List ℕ
at_tail n i k m b = slice_set (slice_set (structure_scope n i k) num_ref_entries m) IN_SPS b

abbrev at_entries : RplNumbers → ℕ → ℕ → ℕ → ℕ → ℕ → ℕ → List ℕ
at_entries n i k m b h f = slice_set (slice_set (at_tail n i k m b) IN_HEADER h) ltrp_in_header_flag f

same_scopes : (names : List ℕ) (n : RplNumbers) (i k j l : ℕ) → IsFalse (has names STRUCTURE) → IsFalse (has names NUM_STRUCTURES) → Agree names (structure_scope n i k) (structure_scope n j l)
unfolding structure_scope
same_scopes names n i k j l index count =
    let to : (i k : ℕ) → Agree names (lists_scope n) (slice_set (slice_set (lists_scope n) STRUCTURE i) NUM_STRUCTURES k)
    = λ i k. agree_on (agree_outside names (lists_scope n) STRUCTURE i index) (agree_outside names (slice_set (lists_scope n) STRUCTURE i) NUM_STRUCTURES k count) in
    agree_on (agree_back (to i k)) (to j l)

tails_agree : (n : RplNumbers) (i k j l m b : ℕ) → Agree tail_reads (at_tail n i k m b) (at_tail n j l m b)
unfolding fresh
tails_agree n i k j l m b =
    set_keeps tail_reads _ _ IN_SPS b (set_keeps tail_reads _ _ num_ref_entries m (same_scopes tail_reads n i k j l refl refl))

entries_agree : (n : RplNumbers) (i k j l m b c g h f : ℕ) → Agree entries_read (at_entries n i k m b g f) (at_entries n j l m c h f)
unfolding fresh
entries_agree n i k j l m b c g h f =
    let names : List ℕ = entries_read in
    let to : (s : List ℕ) (x y : ℕ) → Agree names s (slice_set (slice_set s IN_SPS x) IN_HEADER y) = λ s x y. agree_on (agree_outside names s IN_SPS x refl) (agree_outside names (slice_set s IN_SPS x) IN_HEADER y refl) in
    let base : Agree names (slice_set (structure_scope n i k) num_ref_entries m) (slice_set (structure_scope n j l) num_ref_entries m) = set_keeps names _ _ num_ref_entries m (same_scopes names n i k j l refl refl) in
    set_keeps names _ _ ltrp_in_header_flag f (agree_on (agree_back (to _ b g)) (agree_on base (to _ c h)))

-- ---- the rows behind the number of entries

-- What the items there tell, and that the values go alike where these are written.
record Told (n : RplNumbers) (i k m b : ℕ) (w : List ℤ) : Type 0 where
  in_sps : Bool
  told : is_first ltrp_in_header_flag (items_along (form_of tail_rows (at_tail n i k m b)) w) ≡ in_sps
  alike : GoAlike (form_of tail_rows (at_tail n i k m b)) (form_of tail_rows (at_tail n 0 (one_if in_sps) m (one_if (nat_lt 0 (one_if in_sps))))) w

-- without long-term entries
no_long_term : (weighted present : Bool) (bits i k m b : ℕ) (w : List ℤ) (end : List ℕ)
    → Follows (form_of tail_rows (at_tail (record { long_term = false; weighted = weighted; lsb_bits = bits; rpl1_idx_present = present }) i k m b)) w end
    → Told (record { long_term = false; weighted = weighted; lsb_bits = bits; rpl1_idx_present = present }) i k m b w
unfolding form_of part present value structure_scope lists_scope fresh
no_long_term weighted present bits i k m b w end on =
    let n : RplNumbers = record { long_term = false; weighted = weighted; lsb_bits = bits; rpl1_idx_present = present } in
    record {
      in_sps = false;
      told = entries_other (at_entries n i k m b (one_if (b == 0)) 0) w;
      alike = entries_again (at_entries n i k m b (one_if (b == 0)) 0) (at_entries n 0 0 m 0 1 0) w end (entries_agree n i k 0 0 m b 0 (one_if (b == 0)) 1 0) on;
    }

-- in a header
in_header : (weighted present : Bool) (bits i k m : ℕ) (w : List ℤ) (end : List ℕ)
    → Follows (form_of tail_rows (at_tail (record { long_term = true; weighted = weighted; lsb_bits = bits; rpl1_idx_present = present }) i k m 0)) w end
    → Told (record { long_term = true; weighted = weighted; lsb_bits = bits; rpl1_idx_present = present }) i k m 0 w
unfolding form_of part present value structure_scope lists_scope fresh
in_header weighted present bits i k m w end on =
    let n : RplNumbers = record { long_term = true; weighted = weighted; lsb_bits = bits; rpl1_idx_present = present } in
    record {
      in_sps = false;
      told = entries_other (at_entries n i k m 0 1 1) w;
      alike = tail_again (at_tail n i k m 0) (at_tail n 0 0 m 0) w end (tails_agree n i k 0 0 m 0) on;
    }

-- in an SPS, without entries
no_entries : (weighted present : Bool) (bits i k : ℕ) (w : List ℤ) (end : List ℕ)
    → Follows (form_of tail_rows (at_tail (record { long_term = true; weighted = weighted; lsb_bits = bits; rpl1_idx_present = present }) i k 0 1)) w end
    → Told (record { long_term = true; weighted = weighted; lsb_bits = bits; rpl1_idx_present = present }) i k 0 1 w
unfolding form_of part present value turns structure_scope lists_scope fresh is_first
no_entries weighted present bits i k _ _ to_end = record { in_sps = false; told = refl; alike = record { end = _; follows = to_end; items = refl; bits = λ place. refl } }

-- and with entries: there the flag is spelled
flag_first : {cell : Cell ℕ} {goes : ℤ → Form (List ℕ)} {w : List ℤ} {end : List ℕ} → Follows (field cell goes) w end → has_value cell.coding ≡ true → cell.field ≡ ltrp_in_header_flag
    → is_first ltrp_in_header_flag (items_along (field cell goes) w) ≡ true
unfolding is_first item_of
flag_first (through is on) valued of = rw (valued, of) refl

with_entries : (weighted present : Bool) (bits i k m : ℕ) (w : List ℤ) (end : List ℕ) → (m == 0) ≡ false
    → Follows (form_of tail_rows (at_tail (record { long_term = true; weighted = weighted; lsb_bits = bits; rpl1_idx_present = present }) i k m 1)) w end
    → Told (record { long_term = true; weighted = weighted; lsb_bits = bits; rpl1_idx_present = present }) i k m 1 w
unfolding form_of part present value one_field has_value coding_at structure_scope lists_scope fresh
with_entries weighted present bits i k m w end some on =
    let n : RplNumbers = record { long_term = true; weighted = weighted; lsb_bits = bits; rpl1_idx_present = present } in
    record {
      in_sps = true;
      told = rw some (flag_first (rw some at on) refl refl);
      alike = tail_again (at_tail n i k m 1) (at_tail n 0 1 m 1) w end (tails_agree n i k 0 1 m 1) on;
    }

in_set : (weighted present : Bool) (bits i k m : ℕ) (w : List ℤ) (end : List ℕ)
    → Follows (form_of tail_rows (at_tail (record { long_term = true; weighted = weighted; lsb_bits = bits; rpl1_idx_present = present }) i k m 1)) w end
    → Told (record { long_term = true; weighted = weighted; lsb_bits = bits; rpl1_idx_present = present }) i k m 1 w
in_set weighted present bits i k m w end on =
    let n : RplNumbers = record { long_term = true; weighted = weighted; lsb_bits = bits; rpl1_idx_present = present } in
    elim (cases_Bool (m == 0)) [
      | inl none ↦
          let zero : m ≡ 0 = eqb-true m 0 none in
          subst (λ x. Told n i k x 1 w) (sym zero) (no_entries weighted present bits i k w end (subst (λ x. Follows (form_of tail_rows (at_tail n i k x 1)) w end) zero on))
      | inr some ↦ with_entries weighted present bits i k m w end some on
    ]

told_at : (long_term weighted present : Bool) (bits i k m : ℕ) (w : List ℤ) (end : List ℕ)
    → Follows (form_of tail_rows (at_tail (record { long_term = long_term; weighted = weighted; lsb_bits = bits; rpl1_idx_present = present }) i k m (one_if (nat_lt i k)))) w end
    → Told (record { long_term = long_term; weighted = weighted; lsb_bits = bits; rpl1_idx_present = present }) i k m (one_if (nat_lt i k)) w
told_at false weighted present bits i k m w end on = no_long_term weighted present bits i k m (one_if (nat_lt i k)) w end on
told_at true weighted present bits i k m w end on =
    let n : RplNumbers = record { long_term = true; weighted = weighted; lsb_bits = bits; rpl1_idx_present = present } in
    let At : Bool → Type 0 = λ b. Follows (form_of tail_rows (at_tail n i k m (one_if b))) w end in
    let To : Bool → Type 0 = λ b. Told n i k m (one_if b) w in
    elim (cases_Bool (nat_lt i k)) [
      | inl within ↦ subst To (sym within) (in_set weighted present bits i k m w end (subst At within on))
      | inr behind ↦ subst To (sym behind) (in_header weighted present bits i k m w end (subst At behind on))
    ]

-- ---- a structure

abbrev first_cell : Cell ℕ
first_cell = record { field = num_ref_entries; kept = true; coding = Golomb; limits = Within (pos 0) 29 (Limit 7) }

-- behind it, by its value
abbrev tail_of : RplNumbers → ℕ → ℕ → ℤ → Form (List ℕ)
tail_of n i k v = form_of tail_rows (at_tail n i k (natural v) (one_if (nat_lt i k)))

is_field : (n : RplNumbers) (i k : ℕ) → structure_at n i k ≡ field first_cell (tail_of n i k)
unfolding form_of part one_field after has_value value structure_scope lists_scope fresh coding_at limits_at
is_field n i k = refl

behind_first : (goes other : ℤ → Form (List ℕ)) (v : ℤ) (w : List ℤ) → IsValueOf first_cell v → GoAlike (goes v) (other v) w → GoAlike (field first_cell goes) (field first_cell other) (v ∷ w)
behind_first goes other v w is alike = record {
  end = alike.end;
  follows = through is alike.follows;
  items = ap (λ x. item_of first_cell v ++ x) alike.items;
  bits = λ place. ap (λ x. code_of first_cell.coding place v ++ x) (alike.bits (place + length (code_of first_cell.coding place v)));
}

-- the first value, and those behind it
record Opened (goes : ℤ → Form (List ℕ)) (values : List ℤ) (end : List ℕ) : Type 0 where
  value : ℤ
  others : List ℤ
  all : values ≡ value ∷ others
  is : IsValueOf first_cell value
  on : Follows (goes value) others end

opened : (goes : ℤ → Form (List ℕ)) (values : List ℤ) (end : List ℕ) → Follows (field first_cell goes) values end → Opened goes values end
opened goes _ end (through {v} {w} is on) = record { value = v; others = w; all = refl; is = is; on = on }

first_item : (goes : ℤ → Form (List ℕ)) (v : ℤ) (w : List ℤ) → is_second ltrp_in_header_flag (items_along (field first_cell goes) (v ∷ w)) ≡ is_first ltrp_in_header_flag (items_along (goes v) w)
unfolding item_of has_value
first_item goes v w = second_is ltrp_in_header_flag (record { field = num_ref_entries; value = v }) (items_along (goes v) w)

written_alike : (n : RplNumbers) (i k : ℕ) (v : ℤ) (w : List ℤ) → IsValueOf first_cell v → (told : Told n i k (natural v) (one_if (nat_lt i k)) w)
    → GoAlike (field first_cell (tail_of n i k)) (form_of REF_PIC_LIST_STRUCT (own_scope n (items_along (field first_cell (tail_of n i k)) (v ∷ w)))) (v ∷ w)
written_alike n i k v w is told =
    let goes : ℤ → Form (List ℕ) = tail_of n i k in
    let second : is_second ltrp_in_header_flag (items_along (field first_cell goes) (v ∷ w)) ≡ told.in_sps = first_item goes v w ∙ told.told in
    let At : Form (List ℕ) → Type 0 = λ x. GoAlike (field first_cell goes) x (v ∷ w) in
    subst (λ b. At (structure_at n 0 (one_if b))) (sym second)
    (subst At (sym (is_field n 0 (one_if told.in_sps))) (behind_first goes (tail_of n 0 (one_if told.in_sps)) v w is told.alike))

pub structures_written_alike : StructuresWrittenAlike
structures_written_alike n i k values end follows =
    let goes : ℤ → Form (List ℕ) = tail_of n i k in
    let field_form = is_field n i k in
    let first = opened goes values end (subst (λ x. Follows x values end) field_form follows) in
    let told = told_at n.long_term n.weighted n.rpl1_idx_present n.lsb_bits i k (natural first.value) first.others end first.on in
    let alike = written_alike n i k first.value first.others first.is told in
    let there : GoAlike (field first_cell goes) (form_of REF_PIC_LIST_STRUCT (own_scope n (items_along (field first_cell goes) values))) values
    = subst (λ w. GoAlike (field first_cell goes) (form_of REF_PIC_LIST_STRUCT (own_scope n (items_along (field first_cell goes) w))) w) (sym first.all) alike in
    subst (λ x. GoAlike x (form_of REF_PIC_LIST_STRUCT (own_scope n (items_along x values))) values) (sym field_form) there
