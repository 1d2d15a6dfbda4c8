-- A filter goes through with other ids of its sets, since nothing depends on these.
use Rattle.std.proofs.Common.{◌≡◌, inl, inr, ℕ, ℤ, pos, zero, suc, ◌+◌, ◌-◌, ◌<◌, ◌==◌, ◌&&◌, ◌||◌, Bool, true, false, cond, not, min, List, [], ◌∷◌, ◌++◌, None, length, slice_index, slice_set, refl, ap, sym, subst, ◌∙◌, arith}
use Rattle.std.proofs.lemmas.Bool.{and_parts, cases_Bool, eqb-true, false≢true, not-true, or_cases}
use Rattle.vx_bits.specs.declared.list.Item.{Item}
use Rattle.vx_table.specs.declared.rows.Cell.{Cell}
use Rattle.vx_table.specs.declared.rows.Coding.{Coding}
use Rattle.vx_table.specs.declared.rows.Coding.TheVariants.{Fixed, Golomb, SignedGolomb, Zeros, OneAndZeros, Trailing, Absent, Refused}
use Rattle.vx_table.specs.declared.rows.Formula.{Formula}
use Rattle.vx_table.specs.declared.rows.Formula.TheVariants.{Plain, Plus, Minus, Times, Quotient, Least, PowerOfTwo, CeilLog2, Equal, Differs, AtMost, Both, Either}
use Rattle.vx_table.specs.declared.rows.Formula.TheVariants as formulas
use Rattle.vx_table.specs.declared.rows.Limits.{Limits}
use Rattle.vx_table.specs.declared.rows.Limits.TheVariants.{Any, Within, Multiple}
use Rattle.vx_table.specs.declared.rows.Limits.TheVariants as ranges
use Rattle.vx_table.specs.declared.rows.Presence.{Presence}
use Rattle.vx_table.specs.declared.rows.Presence.TheVariants.{When, Repeat}
use Rattle.vx_table.specs.declared.rows.Row.{Row}
use Rattle.vx_table.specs.declared.rows.Row.TheVariants.{Field, Block, Name}
use Rattle.vx_table.specs.declared.rows.Term.TheVariants.{Latest, Number}
use Rattle.vx_table.specs.Claims.{behind_field, behind_rows, behind_table, depends, hides_counter, hides_row, knows_cell, knows_formula, knows_presence, knows_range, knows_width, table_depends, within_block}
use Rattle.vx_table.specs.Depends.{Agree, has}
use Rattle.vx_table.specs.EachField.{EachField, rows_pass}
use Rattle.vx_table.specs.Forms.{Form, done, field, ◌>>=◌, after, cell_at, coding_at, form_of, has_value, limits_at, one_field, part, present, turns}
use Rattle.vx_table.specs.Named.{named_by}
use Rattle.vx_table.specs.laws.Again.{shows_row}
use Rattle.vx_table.specs.Rewrites.{Takes}
use Rattle.vx_table.specs.Scope.{fresh, natural, value}
use Rattle.vx_table.specs.Spelling.{HasCode, fault_of, item_of, items_along}
use Rattle.vx_table.specs.Values.{Follows, IsValueOf, to_end, through}
use Rattle.vx_table.proofs.Again.{tables_show}
use Rattle.vx_table.proofs.Agreeing.{agree_back, agree_itself, agree_on, agree_outside, agree_set, same_cell, same_value, valued}
use Rattle.vx_table.proofs.Chains.{table_carries}
use Rattle.vx_table.proofs.Dependence.{inside_with_all}
use Rattle.vx_table.proofs.EachField.{each_of_rows}
use Rattle.vx_table.proofs.Groups.{agree_given}
use Rattle.vx_table.proofs.Rewrites.{takes_again}
use Rattle.vx_fields.specs.declared.alf.TheConstants as alf
use Rattle.vx_fields.specs.declared.sps.TheConstants.{sps_ccalf_enabled_flag, sps_chroma_format_idc}
use Rattle.vx_fields.specs.declared.names.ph.TheConstants.{FILTER_SET}
use Rattle.vx_ph.specs.declared.tables.TheConstants.{ALF}
use Rattle.vx_ph.specs.Filter.{FilterGoesAgain, set_ids, with_ids}

abbrev is_id : ℕ → Bool
is_id n = has set_ids n

-- ---- one form as another, but for the values of ids

data Renamed (known : List ℕ) : Form (List ℕ) → Form (List ℕ) → Type 0 where
  at_end : {s t : List ℕ} → Agree known s t → Renamed known (done s) (done t)
  same_field : {cell : Cell ℕ} {goes other : ℤ → Form (List ℕ)} → is_id cell.field ≡ false → ((v : ℤ) → Renamed known (goes v) (other v)) → Renamed known (field cell goes) (field cell other)
  id_field : {cell : Cell ℕ} {goes other : ℤ → Form (List ℕ)} → is_id cell.field ≡ true → ((v w : ℤ) → Renamed known (goes v) (other w)) → Renamed known (field cell goes) (field cell other)

renamed_then : {known : List ℕ} {f g : Form (List ℕ)} {next other : List ℕ → Form (List ℕ)} → Renamed known f g → ((s t : List ℕ) → Agree known s t → Renamed known (next s) (other t)) → Renamed known (f >>= next) (g >>= other)
renamed_then (at_end {s} {t} agree) more = more s t agree
renamed_then (same_field is goes) more = same_field is (λ v. renamed_then (goes v) more)
renamed_then (id_field is goes) more = id_field is (λ v w. renamed_then (goes v w) more)

still : {known s t : List ℕ} (n v : ℕ) → Agree known s t → Agree known (slice_set s n v) (slice_set t n v)
still n v agree = agree_set n v (λ m is_not h. h) agree

renamed_turns : {known : List ℕ} (block : List ℕ → Form (List ℕ)) (counter turn times : ℕ) (s t : List ℕ) → ((s t : List ℕ) → Agree known s t → Renamed known (block s) (block t)) → Agree known s t
    → Renamed known (turns block counter turn times s) (turns block counter turn times t)
unfolding turns
renamed_turns block counter turn zero s t each agree = at_end agree
renamed_turns block counter turn (suc more) s t each agree =
    renamed_then (each (slice_set s counter turn) (slice_set t counter turn) (still counter turn agree)) (λ u w same. renamed_turns block counter (turn + 1) more u w each same)

renamed_present : {known : List ℕ} (presence : Presence) (block : List ℕ → Form (List ℕ)) (s t : List ℕ) → knows_presence known presence ≡ true → ((s t : List ℕ) → Agree known s t → Renamed known (block s) (block t))
    → Agree known s t → Renamed known (present presence block s) (present presence block t)
unfolding present knows_presence
renamed_present {known} (When holds) block s t knows each agree =
    rw (same_value holds agree knows) (elim (value t holds == 0) as (λ none. Renamed known (cond none (done s) (block s)) (cond none (done t) (block t))) [
      | true ↦ at_end agree
      | false ↦ each s t agree
    ])
renamed_present (Repeat counter times) block s t knows each agree = rw (same_value times agree knows) (renamed_turns block counter 0 (value t times) s t each agree)

-- ---- tables whose rows read no id

reads_none : List ℕ → Row → Bool
reads_none known (Field c) = knows_cell known c && (not (is_id c.field) || not (has known c.field))
reads_none known (Block presence n) = knows_presence known presence
reads_none known (Name name formula) = knows_formula known formula

behind_same : {known s t : List ℕ} (c : Cell Formula) (v : ℤ) → Agree known s t → Agree known (after s (cell_at s c) v) (after t (cell_at t c) v)
unfolding after
behind_same {known} {s} {t} c v agree =
    rw (valued s c.coding, valued t c.coding) (elim (has_value c.coding) as (λ b. Agree known (cond b (slice_set s c.field (natural v)) s) (cond b (slice_set t c.field (natural v)) t)) [
      | true ↦ still c.field (natural v) agree
      | false ↦ agree
    ])

behind_apart : {known s t : List ℕ} (c : Cell Formula) (v w : ℤ) → has known c.field ≡ false → Agree known s t → Agree known (after s (cell_at s c) v) (after t (cell_at t c) w)
unfolding after
behind_apart {known} {s} {t} c v w out agree =
    rw (valued s c.coding, valued t c.coding) (elim (has_value c.coding) as (λ b. Agree known (cond b (slice_set s c.field (natural v)) s) (cond b (slice_set t c.field (natural w)) t)) [
      | true ↦ agree_on (agree_back (agree_outside known s c.field (natural v) out)) (agree_on agree (agree_outside known t c.field (natural w) out))
      | false ↦ agree
    ])

renamed_part : (known : List ℕ) (skip len : ℕ) (rows : List Row) (s t : List ℕ) → rows_pass (reads_none known) rows ≡ true → Agree known s t → Renamed known (part skip len rows s) (part skip len rows t)
unfolding part one_field reads_none
renamed_part known zero len [] s t h agree = at_end agree
renamed_part known (suc skip) len [] s t h agree = at_end agree
renamed_part known (suc skip) len (row ∷ rows) s t h agree = renamed_part known skip len rows s t (and_parts (reads_none known row) (rows_pass (reads_none known) rows) h).1 agree
renamed_part known zero zero (row ∷ rows) s t h agree = at_end agree
renamed_part known zero (suc len) (Field c ∷ rows) s t h agree =
    let parts = and_parts (reads_none known (Field c)) (rows_pass (reads_none known) rows) h in
    let here = and_parts (knows_cell known c) (not (is_id c.field) || not (has known c.field)) parts.0 in
    let same = same_cell c agree here.0 in
    let goes : ℤ → Form (List ℕ) = λ v. part 0 len rows (after s (cell_at s c) v) in
    let other : ℤ → Form (List ℕ) = λ v. part 0 len rows (after t (cell_at t c) v) in
    subst (λ k. Renamed known (field (cell_at s c) goes) (field k other)) same (elim (cases_Bool (is_id c.field)) [
      | inr is_not ↦ same_field is_not (λ v. renamed_part known 0 len rows (after s (cell_at s c) v) (after t (cell_at t c) v) parts.1 (behind_same c v agree))
      | inl is ↦
          let out : has known c.field ≡ false = elim (or_cases (not (is_id c.field)) (not (has known c.field)) here.1) [
            | inl no_ ↦ absurd (false≢true (sym (not-true (is_id c.field) no_) ∙ is))
            | inr out_ ↦ not-true (has known c.field) out_
          ] in
          id_field is (λ v w. renamed_part known 0 len rows (after s (cell_at s c) v) (after t (cell_at t c) w) parts.1 (behind_apart c v w out agree))
    ])
renamed_part known zero (suc len) (Block presence n ∷ rows) s t h agree =
    let parts = and_parts (reads_none known (Block presence n)) (rows_pass (reads_none known) rows) h in
    renamed_then (renamed_present presence (part 0 (min n len) rows) s t parts.0 (λ u w same. renamed_part known 0 (min n len) rows u w parts.1 same) agree)
    (λ u w same. renamed_part known (min n len) (len - min n len) rows u w parts.1 same)
renamed_part known zero (suc len) (Name name formula ∷ rows) s t h agree =
    let parts = and_parts (reads_none known (Name name formula)) (rows_pass (reads_none known) rows) h in
    let same = same_value formula agree parts.0 in
    renamed_part known 0 len rows (slice_set s name (value s formula)) (slice_set t name (value t formula)) parts.1 (rw same (still name (value t formula) agree))

-- ---- fields of three bits

is_three : Formula → Bool
is_three (Plain (Number n)) = n == 3
is_three formula = false

three_is : (s : List ℕ) (f : Formula) → is_three f ≡ true → value s f ≡ 3
unfolding is_three value
three_is s (Plain (Number n)) is = eqb-true n 3 is
three_is s (Plain (Latest of)) is = absurd (false≢true is)
three_is s (Plus a b) is = absurd (false≢true is)
three_is s (Minus a b) is = absurd (false≢true is)
three_is s (Times a b) is = absurd (false≢true is)
three_is s (Quotient a b) is = absurd (false≢true is)
three_is s (Least a b) is = absurd (false≢true is)
three_is s (PowerOfTwo a) is = absurd (false≢true is)
three_is s (CeilLog2 a) is = absurd (false≢true is)
three_is s (Equal a b) is = absurd (false≢true is)
three_is s (Differs a b) is = absurd (false≢true is)
three_is s (formulas.Below a b) is = absurd (false≢true is)
three_is s (AtMost a b) is = absurd (false≢true is)
three_is s (Both a b) is = absurd (false≢true is)
three_is s (Either a b) is = absurd (false≢true is)

has_three : Coding Formula → Bool
has_three (Fixed width) = is_three width
has_three coding = false

three_coded : (s : List ℕ) (coding : Coding Formula) (n : ℕ) → has_three coding ≡ true → n < 8 → HasCode (coding_at s coding) (pos n)
unfolding has_three coding_at HasCode
three_coded s (Fixed width) n is low = rw (three_is s width is) (omega (arith, low))
three_coded s Golomb n is low = absurd (false≢true is)
three_coded s SignedGolomb n is low = absurd (false≢true is)
three_coded s Zeros n is low = absurd (false≢true is)
three_coded s OneAndZeros n is low = absurd (false≢true is)
three_coded s Trailing n is low = absurd (false≢true is)
three_coded s Absent n is low = absurd (false≢true is)
three_coded s Refused n is low = absurd (false≢true is)

is_any : Limits Formula → Bool
is_any Any = true
is_any limits = false

any_fits : (s : List ℕ) (limits : Limits Formula) (v : ℤ) → is_any limits ≡ true → fault_of (limits_at s limits) v ≡ None
unfolding is_any limits_at fault_of
any_fits s Any v is = refl
any_fits s (Within low high fault) v is = absurd (false≢true is)
any_fits s (ranges.Below bound fault) v is = absurd (false≢true is)
any_fits s (Multiple unit high fault) v is = absurd (false≢true is)

-- an id may have any number of three bits
abbrev MayBeAny : Cell ℕ → Type 0
MayBeAny cell = is_id cell.field ≡ true → (n : ℕ) → n < 8 → IsValueOf cell (pos n)

row_may : Row → Bool
row_may (Field c) = not (is_id c.field) || (has_three c.coding && is_any c.limits)
row_may (Block presence n) = true
row_may (Name name formula) = true

may_sound : (c : Cell Formula) (s : List ℕ) → row_may (Field c) ≡ true → MayBeAny (cell_at s c)
unfolding row_may
may_sound c s test = λ is n low. elim (or_cases (not (is_id c.field)) (has_three c.coding && is_any c.limits) test) [
  | inl no_ ↦ absurd (false≢true (sym (not-true (is_id c.field) no_) ∙ is))
  | inr both ↦ let parts = and_parts (has_three c.coding) (is_any c.limits) both in record { code = three_coded s c.coding n parts.0 low; range = any_fits s c.limits (pos n) parts.1 }
]

-- ---- values with other ids

module _ (ids : ℕ → ℕ) (low : (n : ℕ) → ids n < 8) where
  other_stays : (cell : Cell ℕ) (v : ℤ) (rest : List Item) → is_id cell.field ≡ false → with_ids ids (item_of cell v ++ rest) ≡ item_of cell v ++ with_ids ids rest
  unfolding item_of
  other_stays cell v rest is = elim (has_value cell.coding)
      as (λ b. with_ids ids (cond b (record { field = cell.field; value = v } ∷ []) [] ++ rest) ≡ cond b (record { field = cell.field; value = v } ∷ []) [] ++ with_ids ids rest) [
        | true ↦ rw is refl
        | false ↦ refl
      ]

  id_moves : (cell : Cell ℕ) (v : ℤ) (rest : List Item) → is_id cell.field ≡ true → with_ids ids (item_of cell v ++ rest) ≡ item_of cell (pos (ids (natural v))) ++ with_ids ids rest
  unfolding item_of
  id_moves cell v rest is = elim (has_value cell.coding)
      as (λ b. with_ids ids (cond b (record { field = cell.field; value = v } ∷ []) [] ++ rest) ≡ cond b (record { field = cell.field; value = pos (ids (natural v)) } ∷ []) [] ++ with_ids ids rest) [
        | true ↦ rw is refl
        | false ↦ refl
      ]

  goes_renamed : {known : List ℕ} {f g : Form (List ℕ)} {w : List ℤ} {a : List ℕ} → Renamed known f g → EachField MayBeAny g → Follows f w a → Takes g (with_ids ids (items_along f w))
  goes_renamed (at_end {t} agree) may to_end = record { values = []; end = t; follows = to_end; all = refl }
  goes_renamed (same_field {cell} {goes} is more) may (through {v} {w} value_ on) =
      let rest = goes_renamed (more v) (may.1 v) on in
      record {
        values = v ∷ rest.values;
        end = rest.end;
        follows = through value_ rest.follows;
        all = ap (λ x. item_of cell v ++ x) rest.all ∙ sym (other_stays cell v (items_along (goes v) w) is);
      }
  goes_renamed (id_field {cell} {goes} is more) may (through {v} {w} value_ on) =
      let u : ℤ = pos (ids (natural v)) in
      let rest = goes_renamed (more v u) (may.1 u) on in
      record {
        values = u ∷ rest.values;
        end = rest.end;
        follows = through (may.0 is (ids (natural v)) (low (natural v))) rest.follows;
        all = ap (λ x. item_of cell u ++ x) rest.all ∙ sym (id_moves cell v (items_along (goes v) w) is);
      }

-- ---- the filter

known_there : List ℕ
known_there = sps_chroma_format_idc ∷ sps_ccalf_enabled_flag ∷ alf.alf_enabled_flag ∷ alf.num_alf_aps_ids_luma ∷ alf.alf_cb_enabled_flag ∷ alf.alf_cr_enabled_flag ∷ alf.alf_cc_cb_enabled_flag
    ∷ alf.alf_cc_cr_enabled_flag ∷ FILTER_SET ∷ []

filter_renamed : (s : List ℕ) → Renamed known_there (form_of ALF s) (form_of ALF s)
unfolding form_of known_there fresh reads_none knows_formula knows_width knows_range knows_presence
filter_renamed s = renamed_part known_there 0 (length ALF) ALF s s refl (agree_itself known_there s)

filter_may : (s : List ℕ) → EachField MayBeAny (form_of ALF s)
unfolding fresh row_may has_three is_three is_any
filter_may s = each_of_rows MayBeAny row_may may_sound ALF s refl

abbrev of_filter : List ℕ
of_filter = sps_chroma_format_idc ∷ sps_ccalf_enabled_flag ∷ []

-- at scopes that agree
pub filter_again : (s t : List ℕ) (filter : List Item) → length s ≡ length t → slice_index s sps_chroma_format_idc ≡ slice_index t sps_chroma_format_idc → slice_index s sps_ccalf_enabled_flag ≡ slice_index t sps_ccalf_enabled_flag
    → Takes (form_of ALF s) filter → Takes (form_of ALF t) filter
unfolding fresh has_value knows_formula knows_width knows_range knows_presence hides_counter hides_row behind_field within_block depends behind_rows table_depends behind_table shows_row
filter_again s t filter size chroma cross takes =
    let shown : List ℕ = of_filter ++ named_by ALF in
    let carries = table_carries shown of_filter ALF refl in
    let all = tables_show shown ALF refl in
    takes_again shown _ (form_of ALF s) (form_of ALF t) filter (carries.alike (inside_with_all of_filter (named_by ALF)) s t (agree_given of_filter size (chroma, (cross, tt)))) (all.at s) (all.at t) takes

pub filter_goes_again : FilterGoesAgain
filter_goes_again ids s t items low size chroma cross takes =
    filter_again s t (with_ids ids items) size chroma cross
    (subst (λ xs. Takes (form_of ALF s) (with_ids ids xs)) takes.all (goes_renamed ids low (filter_renamed s) (filter_may s) takes.follows))
