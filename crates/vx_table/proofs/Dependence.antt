-- Where the test of a table holds, its forms at scopes that agree are alike.
use Rattle.std.proofs.Common.{◌≡◌, inl, inr, ℕ, ℤ, zero, suc, ◌+◌, ◌-◌, ◌≤◌, min, Bool, true, false, cond, not, ◌&&◌, ◌||◌, ◌==◌, IsFalse, List, [], ◌∷◌, ◌++◌, length, take, slice_set, refl, ap, subst, ◌∙◌, arith}
use Rattle.std.proofs.lemmas.List.{take_all}
use Rattle.std.proofs.lemmas.Bool.{cases_Bool, and_parts, or_cases, not-true, and_from}
use Rattle.vx_table.specs.declared.rows.Formula.{Formula}
use Rattle.vx_table.specs.declared.rows.Cell.{Cell}
use Rattle.vx_table.specs.declared.rows.Presence.{Presence}
use Rattle.vx_table.specs.declared.rows.Presence.TheVariants.{When, Repeat}
use Rattle.vx_table.specs.declared.rows.Row.{Row}
use Rattle.vx_table.specs.declared.rows.Row.TheVariants.{Field, Block, Name}
use Rattle.vx_table.specs.Scope.{value, natural}
use Rattle.vx_table.specs.Forms.{Form, done, field, ◌>>=◌, has_value, coding_at, cell_at, after, one_field, turns, present, part, form_of}
use Rattle.vx_table.specs.Depends.{has, Inside, Agree, Alike, at_ends, both, hidden_left, hidden_right, IsLeft, DependsOnlyOn}
use Rattle.vx_table.specs.Claims.{knows_formula, knows_cell, knows_presence, hides_counter, hides_row, hides, grown, behind_field, within_block, block_depends, depends, behind_rows, table_depends, behind_table, depends_only_on}
use Rattle.vx_table.proofs.Agreeing.{inside_itself, inside_on, agree_itself, agree_back, agree_on, agree_less, agree_set, agree_outside, has_either, grown_other, inside_grown, grows, same_value, same_cell, valued}

pub alike_less : {shown known more : List ℕ} {f g : Form (List ℕ)} → Inside known more → Alike shown more f g → Alike shown known f g
alike_less inside (at_ends agree) = at_ends (agree_less inside agree)
alike_less inside (both is more) = both is (λ v. alike_less inside (more v))
alike_less inside (hidden_left is more) = hidden_left is (λ v. alike_less inside (more v))
alike_less inside (hidden_right is more) = hidden_right is (λ v. alike_less inside (more v))

-- one structure behind another
pub alike_then : {shown mid known : List ℕ} {f g : Form (List ℕ)} {next other : List ℕ → Form (List ℕ)} → Alike shown mid f g
    → ((s t : List ℕ) → Agree mid s t → Alike shown known (next s) (other t)) → Alike shown known (f >>= next) (g >>= other)
alike_then (at_ends {s} {t} agree) behind = behind s t agree
alike_then (both is more) behind = both is (λ v. alike_then (more v) behind)
alike_then (hidden_left is more) behind = hidden_left is (λ v. alike_then (more v) behind)
alike_then (hidden_right is more) behind = hidden_right is (λ v. alike_then (more v) behind)

-- ---- forms without a shown field

pub left_at : {shown s t : List ℕ} (f : Form (List ℕ)) → Agree shown s t → IsLeft shown t f → IsLeft shown s f
left_at (done u) agree h = agree_on agree h
left_at (field cell goes) agree h = (h.0, λ v. left_at (goes v) agree (h.1 v))

pub left_then : (shown s : List ℕ) (f : Form (List ℕ)) (next : List ℕ → Form (List ℕ)) → IsLeft shown s f → ((t : List ℕ) → IsLeft shown t (next t)) → IsLeft shown s (f >>= next)
left_then shown s (done t) next h behind = left_at (next t) h (behind t)
left_then shown s (field cell goes) next h behind = (h.0, λ v. left_then shown s (goes v) next (h.1 v) behind)

pub left_turns : (shown : List ℕ) (block : List ℕ → Form (List ℕ)) (counter turn times : ℕ) (s : List ℕ) → IsFalse (has shown counter) → ((t : List ℕ) → IsLeft shown t (block t))
    → IsLeft shown s (turns block counter turn times s)
unfolding turns
left_turns shown block counter turn zero s is h = agree_itself shown s
left_turns shown block counter turn (suc more) s is h =
    left_then shown s (block (slice_set s counter turn)) (turns block counter (turn + 1) more) (left_at (block (slice_set s counter turn)) (agree_outside shown s counter turn is) (h (slice_set s counter turn)))
    (λ t. left_turns shown block counter (turn + 1) more t is h)

pub left_present : (shown : List ℕ) (presence : Presence) (block : List ℕ → Form (List ℕ)) (s : List ℕ) → hides_counter shown presence ≡ true → ((t : List ℕ) → IsLeft shown t (block t))
    → IsLeft shown s (present presence block s)
unfolding present hides_counter
left_present shown (When holds) block s is h = elim (value s holds == 0) as (λ none. IsLeft shown s (cond none (done s) (block s))) [
  | true ↦ agree_itself shown s
  | false ↦ h s
]
left_present shown (Repeat counter times) block s is h = left_turns shown block counter 0 (value s times) s (not-true (has shown counter) is) h

hides_fewer : (shown : List ℕ) (k n : ℕ) (rows : List Row) → k ≤ n → hides shown (take n rows) ≡ true → hides shown (take k rows) ≡ true
hides_fewer shown zero n [] few h = refl
hides_fewer shown (suc k) n [] few h = refl
hides_fewer shown zero n (row ∷ rows) few h = refl
hides_fewer shown (suc k) zero (row ∷ rows) few h = absurd (omega arith)
hides_fewer shown (suc k) (suc n) (row ∷ rows) few h =
    let parts = and_parts (hides_row shown row) (hides shown (take n rows)) h in
    and_from (hides_row shown row) (hides shown (take k rows)) parts.0 (hides_fewer shown k n rows (omega arith) parts.1)

after_hidden : (shown s : List ℕ) (c : Cell Formula) (v : ℤ) → IsFalse (has shown c.field) → Agree shown s (after s (cell_at s c) v)
unfolding after
after_hidden shown s c v is = elim (has_value (coding_at s c.coding)) as (λ b. Agree shown s (cond b (slice_set s c.field (natural v)) s)) [
  | true ↦ agree_outside shown s c.field (natural v) is
  | false ↦ agree_itself shown s
]

left_part : (shown : List ℕ) (skip len : ℕ) (rows : List Row) (s : List ℕ) → hides shown (take (skip + len) rows) ≡ true → IsLeft shown s (part skip len rows s)
unfolding hides_row part one_field
left_part shown zero len [] s h = agree_itself shown s
left_part shown (suc skip) len [] s h = agree_itself shown s
left_part shown (suc skip) len (row ∷ rows) s h =
    let one : suc skip + len ≡ suc (skip + len) = omega arith in
    let parts = and_parts (hides_row shown row) (hides shown (take (skip + len) rows)) (rw one at h) in
    left_part shown skip len rows s parts.1
left_part shown zero zero (row ∷ rows) s h = agree_itself shown s
left_part shown zero (suc len) (Field c ∷ rows) s h =
    let one : 0 + suc len ≡ suc (0 + len) = omega arith in
    let parts = and_parts (not (has shown c.field)) (hides shown (take (0 + len) rows)) (rw one at h) in
    let is = not-true (has shown c.field) parts.0 in
    (is, λ v. left_at (part 0 len rows (after s (cell_at s c) v)) (after_hidden shown s c v is) (left_part shown 0 len rows (after s (cell_at s c) v) parts.1))
left_part shown zero (suc len) (Block presence n ∷ rows) s h =
    let one : 0 + suc len ≡ suc (0 + len) = omega arith in
    let parts = and_parts (hides_counter shown presence) (hides shown (take (0 + len) rows)) (rw one at h) in
    left_then shown s (present presence (part 0 (min n len) rows) s) (part (min n len) (len - min n len) rows)
    (left_present shown presence (part 0 (min n len) rows) s parts.0 (λ t. left_part shown 0 (min n len) rows t (hides_fewer shown (0 + min n len) (0 + len) rows (omega arith) parts.1)))
    (λ t. left_part shown (min n len) (len - min n len) rows t (hides_fewer shown (min n len + (len - min n len)) (0 + len) rows (omega arith) parts.1))
left_part shown zero (suc len) (Name name formula ∷ rows) s h =
    let one : 0 + suc len ≡ suc (0 + len) = omega arith in
    let parts = and_parts (not (has shown name)) (hides shown (take (0 + len) rows)) (rw one at h) in
    let is = not-true (has shown name) parts.0 in
    let t : List ℕ = slice_set s name (value s formula) in
    left_at (part 0 len rows t) (agree_outside shown s name (value s formula) is) (left_part shown 0 len rows t parts.1)

left_alike : {shown known : List ℕ} (s t : List ℕ) (f g : Form (List ℕ)) → Inside known shown → Agree known s t → IsLeft shown s f → IsLeft shown t g → Alike shown known f g
left_alike s t (field cell goes) g inside agree h k = hidden_left h.0 (λ v. left_alike s t (goes v) g inside agree (h.1 v) k)
left_alike s t (done u) (field cell goes) inside agree h k = hidden_right k.0 (λ v. left_alike s t (done u) (goes v) inside agree h (k.1 v))
left_alike s t (done u) (done w) inside agree h k = at_ends (agree_on (agree_less inside (agree_back h)) (agree_on agree (agree_less inside k)))

-- the names that are known behind a name
pub agree_grown : (shown known : List ℕ) {s t : List ℕ} (n v : ℕ) → Agree known s t → Agree (grown shown known n) (slice_set s n v) (slice_set t n v)
agree_grown shown known n v agree = agree_set n v (grown_other shown known n) agree

agree_hidden : {shown known s t : List ℕ} (n v w : ℕ) → Inside known shown → IsFalse (has shown n) → Agree known s t → Agree known (slice_set s n v) (slice_set t n w)
agree_hidden {shown} {s} {t} n v w inside is agree =
    agree_on (agree_less inside (agree_back (agree_outside shown s n v is))) (agree_on agree (agree_less inside (agree_outside shown t n w is)))

alike_turns : {shown known : List ℕ} (block : List ℕ → Form (List ℕ)) (counter turn times : ℕ) (s t : List ℕ)
    → ((s t : List ℕ) → Agree (grown shown known counter) s t → Alike shown known (block s) (block t)) → Agree known s t
    → Alike shown known (turns block counter turn times s) (turns block counter turn times t)
unfolding turns
alike_turns block counter turn zero s t h agree = at_ends agree
alike_turns {shown} {known} block counter turn (suc more) s t h agree =
    alike_then (h (slice_set s counter turn) (slice_set t counter turn) (agree_grown shown known counter turn agree)) (λ u w. alike_turns block counter (turn + 1) more u w h)

pub alike_present : {shown known : List ℕ} (presence : Presence) (block : List ℕ → Form (List ℕ)) (s t : List ℕ) → knows_presence known presence ≡ true
    → ((s t : List ℕ) → Agree (within_block shown known presence) s t → Alike shown known (block s) (block t)) → Agree known s t
    → Alike shown known (present presence block s) (present presence block t)
unfolding present knows_presence within_block
alike_present {shown} {known} (When holds) block s t knows h agree =
    rw (same_value holds agree knows) (elim (value t holds == 0) as (λ none. Alike shown known (cond none (done s) (block s)) (cond none (done t) (block t))) [
      | true ↦ at_ends agree
      | false ↦ h s t agree
    ])
alike_present (Repeat counter times) block s t knows h agree =
    rw (same_value times agree knows) (alike_turns block counter 0 (value t times) s t h agree)

pub inside_block : {shown known : List ℕ} (presence : Presence) → Inside known shown → Inside (within_block shown known presence) shown
unfolding within_block
inside_block (When holds) inside = inside
inside_block (Repeat counter times) inside = inside_grown counter inside

pub block_grows : (shown known : List ℕ) (presence : Presence) → Inside known (within_block shown known presence)
unfolding within_block
block_grows shown known (When holds) = inside_itself known
block_grows shown known (Repeat counter times) = grows shown known counter

-- a block of rows or a table, as often as it is there
pub alike_block : (shown known : List ℕ) (presence : Presence) (block : List ℕ → Form (List ℕ)) (hidden : Bool) (within : List ℕ → Bool) (s t : List ℕ) → Inside known shown
    → block_depends shown known presence hidden within ≡ true → (hidden ≡ true → (u : List ℕ) → IsLeft shown u (block u))
    → ((more : List ℕ) → Inside more shown → within more ≡ true → (u w : List ℕ) → Agree more u w → Alike shown more (block u) (block w)) → Agree known s t
    → Alike shown known (present presence block s) (present presence block t)
alike_block shown known presence block hidden within s t inside test hide show agree =
    let there : List ℕ = within_block shown known presence in
    elim (or_cases (hides_counter shown presence && hidden) (knows_presence known presence && within there) test) [
      | inl h ↦
          let parts = and_parts (hides_counter shown presence) hidden h in
          left_alike s t (present presence block s) (present presence block t) inside agree
          (left_present shown presence block s parts.0 (hide parts.1)) (left_present shown presence block t parts.0 (hide parts.1))
      | inr h ↦
          let parts = and_parts (knows_presence known presence) (within there) h in
          alike_present presence block s t parts.0 (λ u w same. alike_less (block_grows shown known presence) (show there (inside_block presence inside) parts.1 u w same)) agree
    ]

field_grows : (shown known : List ℕ) (c : Cell Formula) → Inside known (behind_field shown known c)
unfolding behind_field
field_grows shown known c = elim (has_value c.coding) as (λ b. Inside known (cond b (grown shown known c.field) known)) [
  | true ↦ grows shown known c.field
  | false ↦ inside_itself known
]

inside_field : {shown known : List ℕ} (c : Cell Formula) → Inside known shown → Inside (behind_field shown known c) shown
unfolding behind_field
inside_field {shown} {known} c inside = elim (has_value c.coding) as (λ b. Inside (cond b (grown shown known c.field) known) shown) [
  | true ↦ inside_grown c.field inside
  | false ↦ inside
]

-- behind a shown field that has the same value in both
after_shown : (shown known : List ℕ) {s t : List ℕ} (c : Cell Formula) (v : ℤ) → Agree known s t → Agree (behind_field shown known c) (after s (cell_at s c) v) (after t (cell_at s c) v)
unfolding behind_field after
after_shown shown known {s} {t} c v agree =
    rw (valued s c.coding) (elim (has_value c.coding) as (λ b. Agree (cond b (grown shown known c.field) known) (cond b (slice_set s c.field (natural v)) s) (cond b (slice_set t c.field (natural v)) t)) [
      | true ↦ agree_grown shown known c.field (natural v) agree
      | false ↦ agree
    ])

known_hidden : (shown known : List ℕ) (c : Cell Formula) → IsFalse (has shown c.field) → behind_field shown known c ≡ known
unfolding behind_field
known_hidden shown known c is = rw is (elim (has_value c.coding) as (λ b. cond b known known ≡ known) [ true ↦ refl | false ↦ refl ])

-- behind a name
named : {shown known s t : List ℕ} (name : ℕ) (f : Formula) → Inside known shown → (not (has shown name) || knows_formula known f) ≡ true → Agree known s t
    → Agree (grown shown known name) (slice_set s name (value s f)) (slice_set t name (value t f))
named {shown} {known} {s} {t} name f inside test agree = elim (or_cases (not (has shown name)) (knows_formula known f) test) [
  | inl is ↦
      let hidden = not-true (has shown name) is in
      rw hidden (agree_hidden name (value s f) (value t f) inside hidden agree)
  | inr knows ↦ rw (same_value f agree knows) (agree_grown shown known name (value t f) agree)
]

rows_grow : (shown known : List ℕ) (skip len : ℕ) (rows : List Row) → Inside known (behind_rows shown known skip len rows)
unfolding behind_rows
rows_grow shown known zero len [] = inside_itself known
rows_grow shown known (suc skip) len [] = inside_itself known
rows_grow shown known (suc skip) len (row ∷ rows) = rows_grow shown known skip len rows
rows_grow shown known zero zero (row ∷ rows) = inside_itself known
rows_grow shown known zero (suc len) (Field c ∷ rows) = inside_on (field_grows shown known c) (rows_grow shown (behind_field shown known c) 0 len rows)
rows_grow shown known zero (suc len) (Block presence n ∷ rows) = rows_grow shown known (min n len) (len - min n len) rows
rows_grow shown known zero (suc len) (Name name formula ∷ rows) = inside_on (grows shown known name) (rows_grow shown (grown shown known name) 0 len rows)

rows_inside : (shown known : List ℕ) (skip len : ℕ) (rows : List Row) → Inside known shown → Inside (behind_rows shown known skip len rows) shown
unfolding behind_rows
rows_inside shown known zero len [] inside = inside
rows_inside shown known (suc skip) len [] inside = inside
rows_inside shown known (suc skip) len (row ∷ rows) inside = rows_inside shown known skip len rows inside
rows_inside shown known zero zero (row ∷ rows) inside = inside
rows_inside shown known zero (suc len) (Field c ∷ rows) inside = rows_inside shown (behind_field shown known c) 0 len rows (inside_field c inside)
rows_inside shown known zero (suc len) (Block presence n ∷ rows) inside = rows_inside shown known (min n len) (len - min n len) rows inside
rows_inside shown known zero (suc len) (Name name formula ∷ rows) inside = rows_inside shown (grown shown known name) 0 len rows (inside_grown name inside)

alike_part : (shown known : List ℕ) (skip len : ℕ) (rows : List Row) (s t : List ℕ) → Inside known shown → depends shown known skip len rows ≡ true → Agree known s t
    → Alike shown (behind_rows shown known skip len rows) (part skip len rows s) (part skip len rows t)
unfolding depends behind_rows part one_field
alike_part shown known zero len [] s t inside test agree = at_ends agree
alike_part shown known (suc skip) len [] s t inside test agree = at_ends agree
alike_part shown known (suc skip) len (row ∷ rows) s t inside test agree = alike_part shown known skip len rows s t inside test agree
alike_part shown known zero zero (row ∷ rows) s t inside test agree = at_ends agree
alike_part shown known zero (suc len) (Field c ∷ rows) s t inside test agree =
    let parts = and_parts (not (has shown c.field) || knows_cell known c) (depends shown (behind_field shown known c) 0 len rows) test in
    elim (cases_Bool (has shown c.field)) [
      | inl is ↦
          let knows : knows_cell known c ≡ true = rw is at parts.0 in
          let same = same_cell c agree knows in
          subst (λ (x : Cell ℕ). Alike shown (behind_rows shown (behind_field shown known c) 0 len rows) (field (cell_at s c) (λ v. part 0 len rows (after s (cell_at s c) v))) (field x (λ v. part 0 len rows (after t x v)))) same
          (both is (λ v. alike_part shown (behind_field shown known c) 0 len rows (after s (cell_at s c) v) (after t (cell_at s c) v) (inside_field c inside) parts.1 (after_shown shown known c v agree)))
      | inr is ↦
          let rest = rw (known_hidden shown known c is) at parts.1 in
          rw (known_hidden shown known c is) (hidden_left is (λ v. hidden_right is (λ w. alike_part shown known 0 len rows (after s (cell_at s c) v) (after t (cell_at t c) w) inside rest
          (agree_on (agree_less inside (agree_back (after_hidden shown s c v is))) (agree_on agree (agree_less inside (after_hidden shown t c w is)))))))
    ]
alike_part shown known zero (suc len) (Block presence n ∷ rows) s t inside test agree =
    let hidden : Bool = hides shown (take (min n len) rows) in
    let within : List ℕ → Bool = λ more. depends shown more 0 (min n len) rows in
    let parts = and_parts (block_depends shown known presence hidden within) (depends shown known (min n len) (len - min n len) rows) test in
    let block = alike_block shown known presence (part 0 (min n len) rows) hidden within s t inside parts.0
    (λ hide u. left_part shown 0 (min n len) rows u (hides_fewer shown (0 + min n len) (min n len) rows (omega arith) hide))
    (λ more there holds u w same. alike_less (rows_grow shown more 0 (min n len) rows) (alike_part shown more 0 (min n len) rows u w there holds same)) agree in
    alike_then block (λ u w behind. alike_part shown known (min n len) (len - min n len) rows u w inside parts.1 behind)
alike_part shown known zero (suc len) (Name name formula ∷ rows) s t inside test agree =
    let parts = and_parts (not (has shown name) || knows_formula known formula) (depends shown (grown shown known name) 0 len rows) test in
    alike_part shown (grown shown known name) 0 len rows (slice_set s name (value s formula)) (slice_set t name (value t formula)) (inside_grown name inside) parts.1 (named name formula inside parts.0 agree)

pub table_grows : (shown known : List ℕ) (rows : List Row) → Inside known (behind_table shown known rows)
unfolding behind_table
table_grows shown known rows = rows_grow shown known 0 (length rows) rows

pub table_inside : {shown known : List ℕ} (rows : List Row) → Inside known shown → Inside (behind_table shown known rows) shown
unfolding behind_table
table_inside {shown} {known} rows inside = rows_inside shown known 0 (length rows) rows inside

pub alike_table : (shown known : List ℕ) (rows : List Row) (s t : List ℕ) → Inside known shown → table_depends shown known rows ≡ true → Agree known s t
    → Alike shown (behind_table shown known rows) (form_of rows s) (form_of rows t)
unfolding form_of table_depends behind_table
alike_table shown known rows s t inside test agree = alike_part shown known 0 (length rows) rows s t inside test agree

pub left_table : (shown : List ℕ) (rows : List Row) (s : List ℕ) → hides shown rows ≡ true → IsLeft shown s (form_of rows s)
unfolding form_of
left_table shown rows s hide = left_part shown 0 (length rows) rows s (rw (take_all (0 + length rows) rows (omega arith)) hide)

-- a set lies within itself with more names
pub inside_with_all : (names more : List ℕ) → Inside names (names ++ more)
inside_with_all names more = record { has_too = λ n h. has_either names more n ∙ ap (λ b. b || has more n) h }

-- What the test of a table says.
pub table_depends_only_on : (given shown : List ℕ) (rows : List Row) → depends_only_on given shown rows ≡ true → DependsOnlyOn given shown (form_of rows)
table_depends_only_on given shown rows test = record {
  alike = λ s t agree. alike_less (table_grows (given ++ shown) given rows)
      (alike_table (given ++ shown) given rows s t (inside_with_all given shown) test agree);
}
