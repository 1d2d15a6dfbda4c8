-- The numbers that the items of a structure give its fields.
use Rattle.std.proofs.Common.{◌≡◌, ◌≢◌, inl, inr, ℕ, ℤ, pos, negsuc, zero, suc, ◌+◌, ◌-◌, ◌<◌, ◌≤◌, ◌^◌, min, true, false, cond, ◌&&◌, ◌||◌, ◌==◌, List, [], ◌∷◌, ◌++◌, length, slice_set, None, refl, ap, sym, ◌∙◌, arith}
use Rattle.std.specs.Prelude.{All, slice_index, int_le, int_lt, replicate}
use Rattle.std.proofs.lemmas.Bool.{and_parts, or_cases, cases_Bool, cases_eq, cases_lt, not-true, false≢true, eq-eqb, leb-true, ltb-true}
use Rattle.std.proofs.lemmas.List.{length-set, length-replicate, get_or-set_other, get_or_past, get_or-replicate, set_past}
use Rattle.std.proofs.lemmas.Grind.{get_or-set_at}
use Rattle.std.proofs.lemmas.List.Elements.{All-cons, All-head, All-nil, All-tail}
use Rattle.vx_bits.specs.declared.list.Item.{Item}
use Rattle.vx_table.specs.declared.rows.Term.TheVariants.{Number}
use Rattle.vx_table.specs.declared.rows.Formula.{Formula}
use Rattle.vx_table.specs.declared.rows.Formula.TheVariants.{Plain}
use Rattle.vx_table.specs.declared.rows.Coding.{Coding}
use Rattle.vx_table.specs.declared.rows.Coding.TheVariants.{Fixed}
use Rattle.vx_table.specs.declared.rows.Limits.{Limits}
use Rattle.vx_table.specs.declared.rows.Limits.TheVariants.{Within, Below, Multiple}
use Rattle.vx_table.specs.declared.rows.Cell.{Cell}
use Rattle.vx_table.specs.declared.rows.Row.{Row}
use Rattle.vx_table.specs.declared.rows.Row.TheVariants.{Field, Block, Name}
use Rattle.vx_table.specs.declared.rows.Presence.{Presence}
use Rattle.vx_table.specs.declared.rows.Presence.TheVariants.{When, Repeat}
use Rattle.vx_table.specs.Scope.{most, fresh, natural, loaded, value}
use Rattle.vx_table.specs.Forms.{Form, done, field, ◌>>=◌, has_value, coding_at, limits_at, cell_at, after, one_field, turns, present, part, form_of}
use Rattle.vx_table.specs.Parts.{Section, sections_form}
use Rattle.vx_table.specs.EachField.{EachField, rows_pass}
use Rattle.vx_table.specs.Spelling.{HasCode, fault_of, is_multiple, item_of, items_along}
use Rattle.vx_table.specs.Values.{Follows, to_end, through}
use Rattle.vx_table.specs.Depends.{has, Agree}
use Rattle.vx_table.specs.Claims.{hides_counter}
use Rattle.vx_table.specs.Loaded.{NumberOfLast, NumberOfNone, NumberOfShown, LoadsTogether, names_none, sections_name_none, TablesLoad, SectionsLoad, StaysBelow, IsBelow, ItemsBelow, NumberBelow, code_below, range_below, row_below, TablesStayBelow, SectionsStayBelow}
use Rattle.vx_table.proofs.Agreeing.{agree_itself, agree_on, agree_set, agree_outside, valued}
use Rattle.vx_table.proofs.Bounds.{unbroken, unbroken_multiple}
use Rattle.vx_table.proofs.EachField.{each_of_rows, each_of_sections}
use Rattle.vx_table.proofs.Joined.{parted, items_joined}
use Rattle.vx_table.proofs.Shown.{loaded_shown}

-- ---- loading

pub no_number : (n of : ℕ) → slice_index (replicate n 0) of ≡ 0
no_number n of = elim (cases_lt of n) [
  | inl within ↦ get_or-replicate n of 0 0 within
  | inr past ↦ get_or_past (replicate n 0) of 0 (omega (arith, length-replicate {A = ℕ} n 0, past))
]

pub loaded_then : (s : List ℕ) (xs ys : List Item) → loaded s (xs ++ ys) ≡ loaded (loaded s xs) ys
loaded_then s [] ys = refl
loaded_then s (item ∷ xs) ys = loaded_then (slice_set s item.field (natural item.value)) xs ys

loaded_length : (s : List ℕ) (items : List Item) → length (loaded s items) ≡ length s
loaded_length s [] = refl
loaded_length s (item ∷ items) = loaded_length (slice_set s item.field (natural item.value)) items ∙ length-set s item.field (natural item.value)

-- items of other fields leave a number as it is
loaded_others : (of : ℕ) (s : List ℕ) (items : List Item) → All (λ item. (item.field == of) ≡ false) items → slice_index (loaded s items) of ≡ slice_index s of
loaded_others of s [] none = refl
loaded_others of s (item ∷ items) none =
    let other : (item.field == of) ≡ false = All-head (λ x. (x.field == of) ≡ false) item items none in
    let is_not : of ≢ item.field = λ is. false≢true (sym other ∙ eq-eqb item.field of (sym is)) in
    loaded_others of (slice_set s item.field (natural item.value)) items (All-tail (λ x. (x.field == of) ≡ false) item items none)
    ∙ get_or-set_other s item.field of (natural item.value) 0 is_not

loaded_agree : (names s t : List ℕ) (items : List Item) → Agree names s t → Agree names (loaded s items) (loaded t items)
loaded_agree names s t [] agree = agree
loaded_agree names s t (item ∷ items) agree =
    loaded_agree names (slice_set s item.field (natural item.value)) (slice_set t item.field (natural item.value)) items (agree_set item.field (natural item.value) (λ m is_not h. h) agree)

pub number_of_last : NumberOfLast
unfolding fresh
number_of_last of v front behind small none =
    let before : List ℕ = loaded (replicate 1024 0) front in
    let long : length before ≡ 1024 = loaded_length (replicate 1024 0) front ∙ refl in
    rw (loaded_then (replicate 1024 0) front (record { field = of; value = v } ∷ behind))
    (loaded_others of (slice_set before of (natural v)) behind none ∙ get_or-set_at before of of (natural v) 0 refl (omega (arith, long)))

pub number_of_none : NumberOfNone
unfolding fresh
number_of_none of items none = loaded_others of (replicate 1024 0) items none ∙ no_number 1024 of

pub number_of_shown : NumberOfShown
number_of_shown names of items is = (loaded_shown names fresh fresh items (agree_itself names fresh)).same of is

-- ---- the scope at the end

-- at the ends of a form these names have the numbers that its items give a scope
IsLoaded : List ℕ → List ℕ → Form (List ℕ) → Type 0
IsLoaded names s (done t) = Agree names s t
IsLoaded names s (field cell goes) = (v : ℤ) → IsLoaded names (loaded s (item_of cell v)) (goes v)

loaded_end : (names s : List ℕ) {f : Form (List ℕ)} {w : List ℤ} {a : List ℕ} → IsLoaded names s f → Follows f w a → Agree names (loaded s (items_along f w)) a
unfolding IsLoaded
loaded_end names s is to_end = is
loaded_end names s is (through {cell} {goes} {v} {w} value on) =
    rw (loaded_then s (item_of cell v) (items_along (goes v) w)) (loaded_end names (loaded s (item_of cell v)) (is v) on)

loaded_at : (names s t : List ℕ) (f : Form (List ℕ)) → Agree names s t → IsLoaded names t f → IsLoaded names s f
unfolding IsLoaded
loaded_at names s t (done u) agree is = agree_on agree is
loaded_at names s t (field cell goes) agree is = λ v. loaded_at names (loaded s (item_of cell v)) (loaded t (item_of cell v)) (goes v) (loaded_agree names s t (item_of cell v) agree) (is v)

is_loaded_then : (names s : List ℕ) (f : Form (List ℕ)) (next : List ℕ → Form (List ℕ)) → IsLoaded names s f → ((t : List ℕ) → IsLoaded names t (next t)) → IsLoaded names s (f >>= next)
unfolding IsLoaded
is_loaded_then names s (done t) next is more = loaded_at names s t (next t) is (more t)
is_loaded_then names s (field cell goes) next is more = λ v. is_loaded_then names (loaded s (item_of cell v)) (goes v) next (is v) more

is_loaded_turns : (names : List ℕ) (block : List ℕ → Form (List ℕ)) (counter turn times : ℕ) (s : List ℕ) → has names counter ≡ false
    → ((t : List ℕ) → IsLoaded names t (block t)) → IsLoaded names s (turns block counter turn times s)
unfolding IsLoaded turns
is_loaded_turns names block counter turn zero s outside is = agree_itself names s
is_loaded_turns names block counter turn (suc more) s outside is =
    is_loaded_then names s (block (slice_set s counter turn)) (turns block counter (turn + 1) more)
    (loaded_at names s (slice_set s counter turn) (block (slice_set s counter turn)) (agree_outside names s counter turn outside) (is (slice_set s counter turn)))
    (λ t. is_loaded_turns names block counter (turn + 1) more t outside is)

is_loaded_present : (names : List ℕ) (presence : Presence) (block : List ℕ → Form (List ℕ)) (s : List ℕ) → hides_counter names presence ≡ true
    → ((t : List ℕ) → IsLoaded names t (block t)) → IsLoaded names s (present presence block s)
unfolding IsLoaded present hides_counter
is_loaded_present names (When holds) block s outside is = elim (value s holds == 0) as (λ none. IsLoaded names s (cond none (done s) (block s))) [
  | true ↦ agree_itself names s
  | false ↦ is s
]
is_loaded_present names (Repeat counter times) block s outside is = is_loaded_turns names block counter 0 (value s times) s (not-true (has names counter) outside) is

-- a field loads its item
after_loads : (s : List ℕ) (cell : Cell ℕ) (v : ℤ) → loaded s (item_of cell v) ≡ after s cell v
unfolding item_of after
after_loads s cell v = elim (has_value cell.coding) as (λ b. loaded s (cond b (record { field = cell.field; value = v } ∷ []) []) ≡ cond b (slice_set s cell.field (natural v)) s) [
  | true ↦ refl
  | false ↦ refl
]

is_loaded_part : (names : List ℕ) (skip len : ℕ) (rows : List Row) (s : List ℕ) → rows_pass (names_none names) rows ≡ true → IsLoaded names s (part skip len rows s)
unfolding IsLoaded part one_field names_none
is_loaded_part names zero len [] s h = agree_itself names s
is_loaded_part names (suc skip) len [] s h = agree_itself names s
is_loaded_part names (suc skip) len (row ∷ rows) s h = is_loaded_part names skip len rows s (and_parts (names_none names row) (rows_pass (names_none names) rows) h).1
is_loaded_part names zero zero (row ∷ rows) s h = agree_itself names s
is_loaded_part names zero (suc len) (Field c ∷ rows) s h = λ v.
    rw (after_loads s (cell_at s c) v) (is_loaded_part names 0 len rows (after s (cell_at s c) v) (and_parts (names_none names (Field c)) (rows_pass (names_none names) rows) h).1)
is_loaded_part names zero (suc len) (Block presence n ∷ rows) s h =
    let parts = and_parts (names_none names (Block presence n)) (rows_pass (names_none names) rows) h in
    is_loaded_then names s (present presence (part 0 (min n len) rows) s) (part (min n len) (len - min n len) rows)
    (is_loaded_present names presence (part 0 (min n len) rows) s parts.0 (λ t. is_loaded_part names 0 (min n len) rows t parts.1))
    (λ t. is_loaded_part names (min n len) (len - min n len) rows t parts.1)
is_loaded_part names zero (suc len) (Name name formula ∷ rows) s h =
    let parts = and_parts (names_none names (Name name formula)) (rows_pass (names_none names) rows) h in
    loaded_at names s (slice_set s name (value s formula)) (part 0 len rows (slice_set s name (value s formula)))
    (agree_outside names s name (value s formula) (not-true (has names name) parts.0)) (is_loaded_part names 0 len rows (slice_set s name (value s formula)) parts.1)

is_loaded_table : (names : List ℕ) (rows : List Row) (s : List ℕ) → rows_pass (names_none names) rows ≡ true → IsLoaded names s (form_of rows s)
unfolding form_of
is_loaded_table names rows s h = is_loaded_part names 0 (length rows) rows s h

is_loaded_sections : (names : List ℕ) (sections : List Section) (s : List ℕ) → sections_name_none names sections ≡ true → IsLoaded names s (sections_form sections s)
unfolding sections_form IsLoaded
is_loaded_sections names [] s h = agree_itself names s
is_loaded_sections names (section ∷ more) s h =
    let parts = and_parts (hides_counter names section.presence && rows_pass (names_none names) section.rows) (sections_name_none names more) h in
    let here = and_parts (hides_counter names section.presence) (rows_pass (names_none names) section.rows) parts.0 in
    is_loaded_then names s (present section.presence (form_of section.rows) s) (sections_form more)
    (is_loaded_present names section.presence (form_of section.rows) s here.0 (λ t. is_loaded_table names section.rows t here.1)) (λ t. is_loaded_sections names more t parts.1)

pub tables_load : TablesLoad
tables_load names rows h = record { at = λ s values end follows. loaded_end names s (is_loaded_table names rows s h) follows }

pub sections_load : SectionsLoad
sections_load names sections h = record { at = λ s values end follows. loaded_end names s (is_loaded_sections names sections s h) follows }

pub loads_together : LoadsTogether
loads_together names first more before behind = record {
  at = λ s values end follows.
      let parts = parted (first s) more follows in
      let items : items_along (first s >>= more) values ≡ items_along (first s) parts.front ++ items_along (more parts.mid) parts.others
      = ap (λ w. items_along (first s >>= more) w) parts.all ∙ items_joined more parts.others parts.first in
      rw (items, loaded_then s (items_along (first s) parts.front) (items_along (more parts.mid) parts.others))
      (agree_on (loaded_agree names (loaded s (items_along (first s) parts.front)) parts.mid (items_along (more parts.mid) parts.others) (before.at s parts.front parts.mid parts.first))
      (behind.at parts.mid parts.others end parts.second));
}

-- ---- bounds

-- numbers that stay below a bound
pub set_below : (s : List ℕ) (n of v bound : ℕ) → (n ≡ of → v < bound) → slice_index s of < bound → slice_index (slice_set s n v) of < bound
set_below s n of v bound is below = elim (cases_eq of n) [
  | inl same ↦ elim (cases_lt n (length s)) [
    | inl within ↦ rw (get_or-set_at s n of v 0 same within) (is (sym same))
    | inr past ↦ rw (set_past s n v past) below
  ]
  | inr other ↦ rw (get_or-set_other s n of v 0 other) below
]

stay_below : (of bound : ℕ) (s : List ℕ) {f : Form (List ℕ)} {w : List ℤ} {a : List ℕ} → EachField (StaysBelow of bound) f → Follows f w a → slice_index s of < bound
    → slice_index (loaded s (items_along f w)) of < bound
unfolding item_of
stay_below of bound s each to_end below = below
stay_below of bound s each (through {cell} {goes} {v} {w} value on) below = elim (cases_Bool (has_value cell.coding)) [
  | inl is ↦ rw is (stay_below of bound (slice_set s cell.field (natural v)) (each.1 v) on (set_below s cell.field of (natural v) bound (λ same. each.0 is same v value) below))
  | inr none ↦ rw none (stay_below of bound s (each.1 v) on below)
]

-- items below a bound
pub below : {A : Type 0} (of bound : ℕ) {form : Form A} {w : List ℤ} {a : A} → EachField (StaysBelow of bound) form → Follows form w a → All (IsBelow of bound) (items_along form w)
unfolding item_of
below of bound each to_end = All-nil (IsBelow of bound)
below of bound each (through {cell} {goes} {v} {w} value on) =
    let more = below of bound (each.1 v) on in
    elim (cases_Bool (has_value cell.coding)) [
      | inl is ↦ rw is (All-cons (IsBelow of bound) (record { field = cell.field; value = v }) (items_along (goes v) w) (λ same. each.0 is same v value) more)
      | inr none ↦ rw none more
    ]

pub items_below : ItemsBelow
items_below of bound form values end each follows = below of bound each follows

pub number_below : NumberBelow
unfolding fresh
number_below of bound form values end some each follows = stay_below of bound (replicate 1024 0) each follows (rw (no_number 1024 of) some)

pub natural_most : (v : ℤ) → natural v ≤ most
unfolding natural
natural_most (pos n) = omega arith
natural_most (negsuc n) = omega arith

pub natural_small : (n v : ℕ) → v < n → natural (pos v) < n
unfolding natural
natural_small n v small = omega arith

code_gives : (bound : ℕ) (coding : Coding Formula) (s : List ℕ) (v : ℤ) → code_below bound coding ≡ true → HasCode (coding_at s coding) v → natural v < bound
unfolding code_below coding_at HasCode value
code_gives bound (Fixed (Plain (Number n))) s (pos v) test has = let few = leb-true (2 ^ min n 32) bound test in natural_small bound v (omega (arith, few, has))
code_gives bound (Fixed (Plain (Number n))) s (negsuc v) test has = absurd has
code_gives bound coding s v test has = let large = ltb-true most bound test in omega (arith, natural_most v, large)

pub inside_below : (low v : ℤ) (high bound : ℕ) → (int_le low v && int_le v (pos high)) ≡ true → high < bound → natural v < bound
unfolding natural
inside_below low (pos n) high bound test small = let parts = and_parts (int_le low (pos n)) (int_le (pos n) (pos high)) test in let few = leb-true n high parts.1 in omega (arith, few)
inside_below low (negsuc n) high bound test small = omega arith

pub before_below : (v : ℤ) (end bound : ℕ) → (int_le (pos 0) v && int_lt v (pos end)) ≡ true → end ≤ bound → natural v < bound
unfolding natural
before_below (pos n) end bound test small = let parts = and_parts (int_le (pos 0) (pos n)) (int_lt (pos n) (pos end)) test in let few = ltb-true n end parts.1 in omega (arith, few)
before_below (negsuc n) end bound test small = let parts = and_parts (int_le (pos 0) (negsuc n)) (int_lt (negsuc n) (pos end)) test in absurd (cc)

pub multiple_below : (v : ℤ) (high bound : ℕ) → 0 < bound → int_le v (pos high) ≡ true → high < bound → natural v < bound
unfolding natural
multiple_below (pos n) high bound some test small = let few = leb-true n high test in omega (arith, few)
multiple_below (negsuc n) high bound some test small = some

range_gives : (bound : ℕ) (limits : Limits Formula) (s : List ℕ) (v : ℤ) → 0 < bound → range_below bound limits ≡ true → fault_of (limits_at s limits) v ≡ None → natural v < bound
unfolding range_below limits_at fault_of value
range_gives bound (Within low (Plain (Number high)) fault) s v some test none = inside_below low v high bound (unbroken _ fault none) (ltb-true high bound test)
range_gives bound (Below (Plain (Number end)) fault) s v some test none = before_below v end bound (unbroken _ fault none) (leb-true end bound test)
range_gives bound (Multiple unit high fault) s v some test none = multiple_below v high bound some (unbroken_multiple (int_le v (pos high)) (is_multiple unit v) fault none).0 (ltb-true high bound test)
range_gives bound limits s v some test none = absurd (cc)

row_gives : (of bound : ℕ) → 0 < bound → (c : Cell Formula) (s : List ℕ) → row_below of bound (Field c) ≡ true → StaysBelow of bound (cell_at s c)
unfolding row_below
row_gives of bound some c s test = λ has same v is.
    let here : (code_below bound c.coding || range_below bound c.limits) ≡ true = rw (sym (valued s c.coding) ∙ has, eq-eqb c.field of same) at test in
    elim (or_cases (code_below bound c.coding) (range_below bound c.limits) here) [
      | inl code ↦ code_gives bound c.coding s v code is.code
      | inr range ↦ range_gives bound c.limits s v some range is.range
    ]

pub tables_stay_below : TablesStayBelow
tables_stay_below of bound rows s some test = each_of_rows (StaysBelow of bound) (row_below of bound) (λ c t h. row_gives of bound some c t h) rows s test

pub sections_stay_below : SectionsStayBelow
sections_stay_below of bound sections s some test = each_of_sections (StaysBelow of bound) (row_below of bound) (λ c t h. row_gives of bound some c t h) sections s test
