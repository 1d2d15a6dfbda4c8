-- Where the test of rows holds, their forms have no field of the names wherever the numbers are 0.
use Rattle.std.proofs.Common.{◌≡◌, inl, inr, ℕ, ℤ, zero, suc, ◌+◌, ◌-◌, min, Bool, true, false, cond, not, ◌&&◌, ◌==◌, IsFalse, List, [], ◌∷◌, length, slice_set, refl, ap, sym, ◌∙◌, arith}
use Rattle.std.proofs.lemmas.Bool.{cases_Bool, cases_eq, cases_lt, and_parts, or_cases, not-true, eqb-true, both_ways}
use Rattle.std.proofs.lemmas.Grind.{get_or-set_at}
use Rattle.std.proofs.lemmas.List.{get_or-set_other, get_or_past, length-set}
use Rattle.vx_table.specs.declared.rows.Term.{Term}
use Rattle.vx_table.specs.declared.rows.Term.TheVariants.{Number, Latest}
use Rattle.vx_table.specs.declared.rows.Formula.{Formula}
use Rattle.vx_table.specs.declared.rows.Formula.TheVariants.{Plain, Plus, Minus, Times, Quotient, Least, PowerOfTwo, CeilLog2, Equal, Differs, Below, AtMost, Both, Either}
use Rattle.vx_table.specs.declared.rows.Cell.{Cell}
use Rattle.vx_table.specs.declared.rows.Presence.{Presence}
use Rattle.vx_table.specs.declared.rows.Presence.TheVariants.{When, Repeat}
use Rattle.vx_table.specs.declared.rows.Row.{Row}
use Rattle.vx_table.specs.declared.rows.Row.TheVariants.{Field, Block, Name}
use Rattle.vx_table.specs.Scope.{is_set, latest, natural, one_if, value}
use Rattle.vx_table.specs.Forms.{Form, done, field, ◌>>=◌, has_value, cell_at, after, one_field, turns, present, part, form_of}
use Rattle.vx_table.specs.Parts.{Section, sections_form}
use Rattle.vx_table.specs.Spelling.{items_along}
use Rattle.vx_table.specs.Values.{Follows, to_end, through}
use Rattle.vx_table.specs.Depends.{has, Inside, IsLeft}
use Rattle.vx_table.specs.Claims.{comes_always, hides_counter}
use Rattle.vx_table.specs.Shown.{shown_items}
use Rattle.vx_table.specs.laws.Absence.{IsAbsent, AreZero, HiddenHaveNoItems, is_zero_term, is_zero, never_comes, block_hides, name_hides, with_name, rows_hide, zeros_behind, table_hides, behind_zeros, section_hides, behind_there, sections_hide_where, TablesHide, SectionsHide, HiddenTogether, HiddenPresent, SetsHide, LeftHide}
use Rattle.vx_table.proofs.Agreeing.{inside_itself, inside_on, with_one, others_too}
use Rattle.vx_table.proofs.Chains.{there_always}
use Rattle.vx_table.proofs.Shown.{hidden_here}

-- ---- numbers that are 0

zero_less : {few more s : List ℕ} → Inside few more → AreZero more s → AreZero few s
zero_less inside are = record { at = λ n h. are.at n (inside.has_too n h) }

-- another number changes
zero_other : (zeros s : List ℕ) (n v : ℕ) → IsFalse (has zeros n) → AreZero zeros s → AreZero zeros (slice_set s n v)
zero_other zeros s n v outside are = record {
  at = λ m h. get_or-set_other s n m v 0 (λ is. both_ways _ (ap (has zeros) is ∙ outside) h) ∙ are.at m h;
}

-- one more number is 0
zero_more : (zeros s : List ℕ) (n v : ℕ) → v ≡ 0 → AreZero zeros s → AreZero (n ∷ zeros) (slice_set s n v)
zero_more zeros s n v none are = record {
  at = λ m h. elim (cases_eq m n) [
    | inl is ↦ elim (cases_lt n (length s)) [
      | inl within ↦ get_or-set_at s n m v 0 is within ∙ none
      | inr past ↦ get_or_past (slice_set s n v) m 0 (omega (arith, is, length-set s n v))
    ]
    | inr is_not ↦ get_or-set_other s n m v 0 is_not ∙ are.at m (others_too zeros n m is_not h)
  ];
}

term_zero : {zeros s : List ℕ} (a : Term) → AreZero zeros s → is_zero_term zeros a ≡ true → latest s a ≡ 0
term_zero (Number n) are h = eqb-true n 0 h
term_zero (Latest of) are h = are.at of h

both_first : (m n : ℕ) → m ≡ 0 → one_if (is_set m && is_set n) ≡ 0
both_first m n none = rw none refl

both_second : (m n : ℕ) → n ≡ 0 → one_if (is_set m && is_set n) ≡ 0
both_second m n none = rw none (elim (is_set m) as (λ b. one_if (b && false) ≡ 0) [ true ↦ refl | false ↦ refl ])

value_zero : {zeros s : List ℕ} (f : Formula) → AreZero zeros s → is_zero zeros f ≡ true → value s f ≡ 0
unfolding is_zero value
value_zero (Plain a) are h = term_zero a are h
value_zero (Minus a b) are h = omega (arith, term_zero a are h)
value_zero {zeros} {s} (Times a b) are h = elim (or_cases (is_zero_term zeros a) (is_zero_term zeros b) h) [
  | inl first ↦ let e = term_zero a are first in rw e (omega arith)
  | inr second ↦ let e = term_zero b are second in rw e (omega arith)
]
value_zero {zeros} {s} (Least a b) are h = elim (or_cases (is_zero_term zeros a) (is_zero_term zeros b) h) [
  | inl first ↦ omega (arith, term_zero a are first)
  | inr second ↦ omega (arith, term_zero b are second)
]
value_zero {zeros} {s} (Both a b) are h = elim (or_cases (is_zero_term zeros a) (is_zero_term zeros b) h) [
  | inl first ↦ both_first (latest s a) (latest s b) (term_zero a are first)
  | inr second ↦ both_second (latest s a) (latest s b) (term_zero b are second)
]
value_zero {zeros} {s} (Either a b) are h =
    let parts = and_parts (is_zero_term zeros a) (is_zero_term zeros b) h in
    let first = term_zero a are parts.0 in
    let second = term_zero b are parts.1 in
    rw (first, second) refl
value_zero (Plus a b) are h = absurd (both_ways false refl h)
value_zero (Quotient a b) are h = absurd (both_ways false refl h)
value_zero (PowerOfTwo a) are h = absurd (both_ways false refl h)
value_zero (CeilLog2 a) are h = absurd (both_ways false refl h)
value_zero (Equal a b) are h = absurd (both_ways false refl h)
value_zero (Differs a b) are h = absurd (both_ways false refl h)
value_zero (Below a b) are h = absurd (both_ways false refl h)
value_zero (AtMost a b) are h = absurd (both_ways false refl h)

-- ---- forms without a field of the names

absent_less : (names : List ℕ) {few more : List ℕ} (f : Form (List ℕ)) → Inside few more → IsAbsent names (AreZero more) f → IsAbsent names (AreZero few) f
absent_less names (done t) inside h = zero_less inside h
absent_less names (field cell goes) inside h = (h.0, λ v. absent_less names (goes v) inside (h.1 v))

absent_then : (names mid after : List ℕ) (f : Form (List ℕ)) (next : List ℕ → Form (List ℕ)) → IsAbsent names (AreZero mid) f
    → ((t : List ℕ) → AreZero mid t → IsAbsent names (AreZero after) (next t)) → IsAbsent names (AreZero after) (f >>= next)
absent_then names mid after (done t) next h behind = behind t h
absent_then names mid after (field cell goes) next h behind = (h.0, λ v. absent_then names mid after (goes v) next (h.1 v) behind)

absent_turns : (names zeros : List ℕ) (block : List ℕ → Form (List ℕ)) (counter turn times : ℕ) (s : List ℕ) → IsFalse (has zeros counter)
    → ((t : List ℕ) → AreZero zeros t → IsAbsent names (AreZero zeros) (block t)) → AreZero zeros s → IsAbsent names (AreZero zeros) (turns block counter turn times s)
unfolding turns
absent_turns names zeros block counter turn zero s is h are = are
absent_turns names zeros block counter turn (suc more) s is h are =
    absent_then names zeros zeros (block (slice_set s counter turn)) (turns block counter (turn + 1) more) (h (slice_set s counter turn) (zero_other zeros s counter turn is are))
    (λ t there. absent_turns names zeros block counter (turn + 1) more t is h there)

absent_present : (names zeros : List ℕ) (presence : Presence) (block : List ℕ → Form (List ℕ)) (s : List ℕ) → hides_counter zeros presence ≡ true
    → ((t : List ℕ) → AreZero zeros t → IsAbsent names (AreZero zeros) (block t)) → AreZero zeros s → IsAbsent names (AreZero zeros) (present presence block s)
unfolding present hides_counter
absent_present names zeros (When holds) block s is h are = elim (value s holds == 0) as (λ none. IsAbsent names (AreZero zeros) (cond none (done s) (block s))) [
  | true ↦ are
  | false ↦ h s are
]
absent_present names zeros (Repeat counter times) block s is h are = absent_turns names zeros block counter 0 (value s times) s (not-true (has zeros counter) is) h are

absent_never : (names zeros : List ℕ) (presence : Presence) (block : List ℕ → Form (List ℕ)) (s : List ℕ) → never_comes zeros presence ≡ true
    → AreZero zeros s → IsAbsent names (AreZero zeros) (present presence block s)
unfolding present never_comes turns
absent_never names zeros (When holds) block s is are = let none : value s holds ≡ 0 = value_zero holds are is in rw none are
absent_never names zeros (Repeat counter times) block s is are = let none : value s times ≡ 0 = value_zero times are is in rw none are

-- a block or a table, as often as it is there
absent_block : (names zeros : List ℕ) (presence : Presence) (block : List ℕ → Form (List ℕ)) (inside : Bool) (s : List ℕ) → block_hides zeros presence inside ≡ true
    → (inside ≡ true → (t : List ℕ) → AreZero zeros t → IsAbsent names (AreZero zeros) (block t)) → AreZero zeros s → IsAbsent names (AreZero zeros) (present presence block s)
absent_block names zeros presence block inside s test h are = elim (or_cases (never_comes zeros presence) (hides_counter zeros presence && inside) test) [
  | inl never ↦ absent_never names zeros presence block s never are
  | inr there ↦
      let parts = and_parts (hides_counter zeros presence) inside there in
      absent_present names zeros presence block s parts.0 (h parts.1) are
]

name_grows : (zeros : List ℕ) (name : ℕ) (formula : Formula) → Inside zeros (with_name zeros name formula)
name_grows zeros name formula = elim (is_zero zeros formula) as (λ b. Inside zeros (cond b (name ∷ zeros) zeros)) [ true ↦ with_one zeros name | false ↦ inside_itself zeros ]

zeros_grow : (zeros : List ℕ) (skip len : ℕ) (rows : List Row) → Inside zeros (zeros_behind zeros skip len rows)
unfolding zeros_behind
zeros_grow zeros zero len [] = inside_itself zeros
zeros_grow zeros (suc skip) len [] = inside_itself zeros
zeros_grow zeros (suc skip) len (row ∷ rows) = zeros_grow zeros skip len rows
zeros_grow zeros zero zero (row ∷ rows) = inside_itself zeros
zeros_grow zeros zero (suc len) (Field c ∷ rows) = zeros_grow zeros 0 len rows
zeros_grow zeros zero (suc len) (Block presence n ∷ rows) = zeros_grow zeros (min n len) (len - min n len) rows
zeros_grow zeros zero (suc len) (Name name formula ∷ rows) = inside_on (name_grows zeros name formula) (zeros_grow (with_name zeros name formula) 0 len rows)

name_kept : (zeros s : List ℕ) (name : ℕ) (formula : Formula) → name_hides zeros name formula ≡ true → AreZero zeros s → AreZero (with_name zeros name formula) (slice_set s name (value s formula))
name_kept zeros s name formula test are = elim (cases_Bool (is_zero zeros formula)) [
  | inl none ↦ rw none (zero_more zeros s name (value s formula) (value_zero formula are none) are)
  | inr some ↦
      let other : not (has zeros name) ≡ true = rw some at test in
      rw some (zero_other zeros s name (value s formula) (not-true (has zeros name) other) are)
]

after_kept : (zeros s : List ℕ) (c : Cell Formula) (v : ℤ) → IsFalse (has zeros c.field) → AreZero zeros s → AreZero zeros (after s (cell_at s c) v)
unfolding after
after_kept zeros s c v is are = elim (has_value (cell_at s c).coding) as (λ b. AreZero zeros (cond b (slice_set s c.field (natural v)) s)) [
  | true ↦ zero_other zeros s c.field (natural v) is are
  | false ↦ are
]

absent_part : (names zeros : List ℕ) (skip len : ℕ) (rows : List Row) (s : List ℕ) → rows_hide names zeros skip len rows ≡ true → AreZero zeros s
    → IsAbsent names (AreZero (zeros_behind zeros skip len rows)) (part skip len rows s)
unfolding rows_hide zeros_behind part one_field
absent_part names zeros zero len [] s test are = are
absent_part names zeros (suc skip) len [] s test are = are
absent_part names zeros (suc skip) len (row ∷ rows) s test are = absent_part names zeros skip len rows s test are
absent_part names zeros zero zero (row ∷ rows) s test are = are
absent_part names zeros zero (suc len) (Field c ∷ rows) s test are =
    let parts = and_parts (not (has names c.field) && not (has zeros c.field)) (rows_hide names zeros 0 len rows) test in
    let both = and_parts (not (has names c.field)) (not (has zeros c.field)) parts.0 in
    (not-true (has names c.field) both.0, λ v. absent_part names zeros 0 len rows (after s (cell_at s c) v) parts.1 (after_kept zeros s c v (not-true (has zeros c.field) both.1) are))
absent_part names zeros zero (suc len) (Block presence n ∷ rows) s test are =
    let parts = and_parts (block_hides zeros presence (rows_hide names zeros 0 (min n len) rows)) (rows_hide names zeros (min n len) (len - min n len) rows) test in
    absent_then names zeros (zeros_behind zeros (min n len) (len - min n len) rows) (present presence (part 0 (min n len) rows) s) (part (min n len) (len - min n len) rows)
    (absent_block names zeros presence (part 0 (min n len) rows) (rows_hide names zeros 0 (min n len) rows) s parts.0
    (λ inside t there. absent_less names (part 0 (min n len) rows t) (zeros_grow zeros 0 (min n len) rows) (absent_part names zeros 0 (min n len) rows t inside there)) are)
    (λ t there. absent_part names zeros (min n len) (len - min n len) rows t parts.1 there)
absent_part names zeros zero (suc len) (Name name formula ∷ rows) s test are =
    let parts = and_parts (name_hides zeros name formula) (rows_hide names (with_name zeros name formula) 0 len rows) test in
    absent_part names (with_name zeros name formula) 0 len rows (slice_set s name (value s formula)) parts.1 (name_kept zeros s name formula parts.0 are)

-- ---- tables and structures

-- as it is hidden, with more numbers that are 0 at its end
record HidesOn (names before behind : List ℕ) (form : List ℕ → Form (List ℕ)) : Type 0 where
  at : (s : List ℕ) → AreZero before s → IsAbsent names (AreZero behind) (form s)

table_hides_on : (names zeros : List ℕ) (rows : List Row) → table_hides names zeros rows ≡ true → HidesOn names zeros (behind_zeros zeros rows) (form_of rows)
unfolding table_hides behind_zeros form_of
table_hides_on names zeros rows test = record { at = λ s are. absent_part names zeros 0 (length rows) rows s test are }

table_grows : (zeros : List ℕ) (rows : List Row) → Inside zeros (behind_zeros zeros rows)
unfolding behind_zeros
table_grows zeros rows = zeros_grow zeros 0 (length rows) rows

pub tables_hide : TablesHide
tables_hide names zeros rows test = record { at = λ s are. absent_less names (form_of rows s) (table_grows zeros rows) ((table_hides_on names zeros rows test).at s are) }

section_hides_on : (names zeros : List ℕ) (section : Section) → section_hides names zeros section ≡ true
    → HidesOn names zeros (behind_there zeros section) (present section.presence (form_of section.rows))
section_hides_on names zeros section test = elim (cases_Bool (comes_always section.presence)) [
  | inl always ↦ rw always record {
    at = λ s are. rw (there_always section.presence (form_of section.rows) s always) ((table_hides_on names zeros section.rows (rw always at test)).at s are);
  }
  | inr not_always ↦ rw not_always record {
    at = λ s are. absent_block names zeros section.presence (form_of section.rows) (table_hides names zeros section.rows) s (rw not_always at test)
        (λ hide t there. (tables_hide names zeros section.rows hide).at t there) are;
  }
]

section_grows : (zeros : List ℕ) (section : Section) → Inside zeros (behind_there zeros section)
section_grows zeros section = elim (comes_always section.presence) as (λ b. Inside zeros (cond b (behind_zeros zeros section.rows) zeros)) [
  | true ↦ table_grows zeros section.rows
  | false ↦ inside_itself zeros
]

pub sections_hide : SectionsHide
unfolding sections_form
sections_hide names zeros [] test = record { at = λ s are. are }
sections_hide names zeros (section ∷ more) test =
    let parts = and_parts (section_hides names zeros section) (sections_hide_where names (behind_there zeros section) more) test in
    let rest = sections_hide names (behind_there zeros section) more parts.1 in
    record {
      at = λ s are. absent_then names (behind_there zeros section) zeros (present section.presence (form_of section.rows) s) (sections_form more)
          ((section_hides_on names zeros section parts.0).at s are)
          (λ t there. absent_less names (sections_form more t) (section_grows zeros section) (rest.at t there));
    }

pub hidden_together : HiddenTogether
hidden_together names zeros form next first more = record { at = λ s are. absent_then names zeros zeros (form s) next (first.at s are) more.at }

pub hidden_present : HiddenPresent
hidden_present names zeros presence form counts is = record { at = λ s are. absent_present names zeros presence form s counts is.at are }

pub sets_hide : SetsHide
sets_hide names zeros n v outside = record { at = λ s are. zero_other zeros s n (v s) outside are }

absent_left : (names zeros s : List ℕ) (f : Form (List ℕ)) → IsLeft names s f → IsLeft zeros s f → AreZero zeros s → IsAbsent names (AreZero zeros) f
absent_left names zeros s (done t) named left are = record { at = λ n is. sym (left.same n is) ∙ are.at n is }
absent_left names zeros s (field cell goes) named left are = (named.0, λ v. absent_left names zeros s (goes v) (named.1 v) (left.1 v) are)

pub left_hide : LeftHide
left_hide names zeros form named left = record { at = λ s are. absent_left names zeros s (form s) (named.at s) (left.at s) are }

-- ---- items

no_items : (names after : List ℕ) (f : Form (List ℕ)) {values : List ℤ} {end : List ℕ} → IsAbsent names (AreZero after) f → Follows f values end → (shown_items names (items_along f values) ≡ []) × AreZero after end
no_items names after f h (to_end {a}) = (refl, h)
no_items names after f h (through {cell} {goes} {v} {w} is more) =
    let rest = no_items names after (goes v) (h.1 v) more in
    (hidden_here names cell v (items_along (goes v) w) h.0 ∙ rest.0, rest.1)

pub hidden_have_no_items : HiddenHaveNoItems
hidden_have_no_items names zeros form s values end hidden are follows = no_items names zeros (form s) (hidden.at s are) follows
