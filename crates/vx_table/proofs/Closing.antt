-- What may follow the values of a table.
use Rattle.std.proofs.Common.{◌≡◌, ℕ, ℤ, zero, suc, ◌+◌, ◌-◌, ◌<◌, min, ◌⊎◌, inl, inr, Bool, true, false, List, [], ◌∷◌, ◌++◌, length, slice_set, refl, sym, subst, arith}
use Rattle.std.specs.Prelude.{◌||◌, not, nat_lt, ◌==◌, cond}
use Rattle.std.proofs.lemmas.Bool.{and_parts, or_parts, not-true}
use Rattle.std.proofs.lemmas.Bool.Decides.{leb_tells}
use Rattle.vx_table.specs.declared.rows.Formula.{Formula}
use Rattle.vx_table.specs.declared.rows.Coding.{Coding}
use Rattle.vx_table.specs.declared.rows.Coding.TheVariants.{Fixed, Golomb, SignedGolomb, Zeros, OneAndZeros, Trailing, Absent, Refused}
use Rattle.vx_table.specs.declared.rows.Cell.{Cell}
use Rattle.vx_table.specs.declared.rows.Row.{Row}
use Rattle.vx_table.specs.declared.rows.Row.TheVariants.{Field, Block, Name}
use Rattle.vx_table.specs.declared.rows.Presence.{Presence}
use Rattle.vx_table.specs.declared.rows.Presence.TheVariants.{When, Repeat}
use Rattle.vx_table.specs.Scope.{value}
use Rattle.vx_table.specs.Forms.{Form, done, field, ◌>>=◌, coding_at, one_field, present, part, form_of}
use Rattle.vx_table.specs.Spelling.{MayEnd}
use Rattle.vx_table.specs.Values.{bits_along, Closes}
use Rattle.vx_table.specs.declared.parts.Part.{Part}
use Rattle.vx_table.specs.Parts.{sections_form, parts_form}
use Rattle.vx_table.specs.EachField.{EachField}
use Rattle.vx_table.proofs.EachField.{each_then, each_present}
use Rattle.vx_table.specs.laws.Trailing.{is_trailing, has_trailing, trails_last, comes_once, parts_have_trailing, parts_trail_last, ClosesWithoutTrailing, ClosesAtTheEnd, PartsCloseWithoutTrailing, PartsCloseAtTheEnd}

-- No field of the form is a trailing.
abbrev pub IsNoTrailing : Cell ℕ → Type 0
IsNoTrailing cell = is_trailing cell.coding ≡ false

abbrev pub IsOpen : {A : Type 0} → Form A → Type 0
IsOpen form = EachField IsNoTrailing form

may_end : (coding : Coding ℕ) (rest : List Bool) → is_trailing coding ≡ false → MayEnd coding rest
unfolding MayEnd is_trailing
may_end (Fixed n) rest none = tt
may_end Golomb rest none = tt
may_end SignedGolomb rest none = tt
may_end Zeros rest none = tt
may_end OneAndZeros rest none = tt
may_end Trailing rest none = absurd (cc)
may_end Absent rest none = tt
may_end Refused rest none = tt

closes : {A : Type 0} (form : Form A) (place : ℕ) (values : List ℤ) (rest : List Bool) → IsOpen form → Closes form place values rest
closes (done a) place values rest is = tt
closes (field cell goes) place [] rest is = tt
closes (field cell goes) place (v ∷ w) rest is = (may_end cell.coding _ is.0, closes (goes v) _ w rest (is.1 v))

-- a scope doesn't make a trailing
same_kind : (s : List ℕ) (coding : Coding Formula) → is_trailing coding ≡ false → is_trailing (coding_at s coding) ≡ false
unfolding is_trailing coding_at
same_kind s (Fixed width) none = refl
same_kind s Golomb none = refl
same_kind s SignedGolomb none = refl
same_kind s Zeros none = refl
same_kind s OneAndZeros none = refl
same_kind s Trailing none = none
same_kind s Absent none = refl
same_kind s Refused none = refl

open_field : (s : List ℕ) (c : Cell Formula) → is_trailing c.coding ≡ false → IsOpen (one_field s c)
unfolding one_field
open_field s c none = (same_kind s c.coding none, λ v. tt)

open_part : (skip len : ℕ) (rows : List Row) (s : List ℕ) → has_trailing rows ≡ false → IsOpen (part skip len rows s)
unfolding part has_trailing
open_part skip len [] s none = tt
open_part (suc skip) len (Field c ∷ rows) s none = open_part skip len rows s (or_parts _ _ none).1
open_part (suc skip) len (Block presence n ∷ rows) s none = open_part skip len rows s none
open_part (suc skip) len (Name name formula ∷ rows) s none = open_part skip len rows s none
open_part zero zero (row ∷ rows) s none = tt
open_part zero (suc len) (Field c ∷ rows) s none =
    each_then IsNoTrailing (one_field s c) (part 0 len rows) (open_field s c (or_parts _ _ none).0) (λ t. open_part 0 len rows t (or_parts _ _ none).1)
open_part zero (suc len) (Block presence n ∷ rows) s none =
    each_then IsNoTrailing (present presence (part 0 (min n len) rows) s) (part (min n len) (len - min n len) rows) (each_present IsNoTrailing presence (part 0 (min n len) rows) s (λ t. open_part 0 (min n len) rows t none))
    (λ t. open_part (min n len) (len - min n len) rows t none)
open_part zero (suc len) (Name name formula ∷ rows) s none = open_part 0 len rows (slice_set s name (value s formula)) none

open_form : (rows : List Row) (s : List ℕ) → has_trailing rows ≡ false → IsOpen (form_of rows s)
unfolding form_of
open_form rows s none = open_part 0 (length rows) rows s none

pub closes_without_trailing : ClosesWithoutTrailing
closes_without_trailing rows s place values rest none = closes (form_of rows s) place values rest (open_form rows s none)

-- ---- a trailing at the end

-- A trailing comes only as the last field.
pub data ComesLast {A : Type 0} : Form A → Type 0 where
  over_too : {a : A} → ComesLast (done a)
  before : {cell : Cell ℕ} {goes : ℤ → Form A} → is_trailing cell.coding ≡ false → ((v : ℤ) → ComesLast (goes v)) → ComesLast (field cell goes)
  last : {cell : Cell ℕ} {goes : ℤ → Form A} → ((v : ℤ) → (a : A) × (goes v ≡ done a)) → ComesLast (field cell goes)

ends_bits : (coding : Coding ℕ) → MayEnd coding []
unfolding MayEnd
ends_bits (Fixed n) = tt
ends_bits Golomb = tt
ends_bits SignedGolomb = tt
ends_bits Zeros = tt
ends_bits OneAndZeros = tt
ends_bits Trailing = refl
ends_bits Absent = tt
ends_bits Refused = tt

over_closes : {A : Type 0} (form : Form A) (a : A) (coding : Coding ℕ) (place : ℕ) (w : List ℤ) → form ≡ done a → MayEnd coding (bits_along form place w ++ []) × Closes form place w []
over_closes form a coding place w is = subst (λ x. MayEnd coding (bits_along x place w ++ []) × Closes x place w []) (sym is) (ends_bits coding, tt)

pub closes_end : {A : Type 0} (form : Form A) (place : ℕ) (values : List ℤ) → ComesLast form → Closes form place values []
closes_end (done a) place values is = tt
closes_end (field cell goes) place [] is = tt
closes_end (field cell goes) place (v ∷ w) (before none more) = (may_end cell.coding _ none, closes_end (goes v) _ w (more v))
closes_end (field cell goes) place (v ∷ w) (last ends) = over_closes (goes v) (ends v).0 cell.coding _ w (ends v).1

pub sequence_last : {A B : Type 0} (f : Form A) (next : A → Form B) → IsOpen f → ((a : A) → ComesLast (next a)) → ComesLast (f >>= next)
sequence_last (done a) next is others = others a
sequence_last (field cell goes) next is others = before is.0 (λ v. sequence_last (goes v) next (is.1 v) others)

-- the block ends before the last row, or no row is a trailing
block_ends : (n : ℕ) (rows : List Row) → (nat_lt n (length rows) || not (has_trailing rows)) ≡ true → (n < length rows) ⊎ (has_trailing rows ≡ false)
block_ends n rows holds =
    elim (leb_tells (suc n) (length rows)) [
      | inl p ↦ inl p.1
      | inr p ↦ inr (not-true (has_trailing rows) (rw p.0 at holds))
    ]

tail_last : (row : Row) (rows : List Row) → trails_last (row ∷ rows) ≡ true → trails_last rows ≡ true
unfolding trails_last
tail_last (Field c) [] holds = refl
tail_last (Field c) (row ∷ rows) holds = (and_parts _ _ holds).1
tail_last (Block presence n) rows holds = (and_parts _ _ holds).1
tail_last (Name name formula) rows holds = holds

-- before the last row there is no trailing
open_before : (skip len : ℕ) (rows : List Row) (s : List ℕ) → trails_last rows ≡ true → skip + len < length rows → IsOpen (part skip len rows s)
unfolding part trails_last
open_before skip len [] s holds few = tt
open_before (suc skip) len (row ∷ rows) s holds few = open_before skip len rows s (tail_last row rows holds) (omega arith)
open_before zero zero (row ∷ rows) s holds few = tt
open_before zero (suc len) (Field c ∷ []) s holds few = absurd (omega arith)
open_before zero (suc len) (Field c ∷ row ∷ rows) s holds few =
    let parts = and_parts (not (is_trailing c.coding)) (trails_last (row ∷ rows)) holds in
    each_then IsNoTrailing (one_field s c) (part 0 len (row ∷ rows)) (open_field s c (not-true _ parts.0)) (λ t. open_before 0 len (row ∷ rows) t parts.1 (omega arith))
open_before zero (suc len) (Block presence n ∷ rows) s holds few =
    let more = (and_parts (nat_lt n (length rows) || not (has_trailing rows)) (trails_last rows) holds).1 in
    each_then IsNoTrailing (present presence (part 0 (min n len) rows) s) (part (min n len) (len - min n len) rows)
    (each_present IsNoTrailing presence (part 0 (min n len) rows) s (λ t. open_before 0 (min n len) rows t more (omega arith)))
    (λ t. open_before (min n len) (len - min n len) rows t more (omega arith))
open_before zero (suc len) (Name name formula ∷ rows) s holds few = open_before 0 len rows (slice_set s name (value s formula)) holds (omega arith)

last_part : (skip len : ℕ) (rows : List Row) (s : List ℕ) → trails_last rows ≡ true → skip + len ≡ length rows → ComesLast (part skip len rows s)
unfolding part trails_last one_field
last_part skip len [] s holds all = over_too
last_part (suc skip) len (row ∷ rows) s holds all = last_part skip len rows s (tail_last row rows holds) (omega arith)
last_part zero zero (row ∷ rows) s holds all = over_too
last_part zero (suc len) (Field c ∷ []) s holds all = last (λ v. (_, refl))
last_part zero (suc len) (Field c ∷ row ∷ rows) s holds all =
    let parts = and_parts (not (is_trailing c.coding)) (trails_last (row ∷ rows)) holds in
    sequence_last (one_field s c) (part 0 len (row ∷ rows)) (open_field s c (not-true _ parts.0)) (λ t. last_part 0 len (row ∷ rows) t parts.1 (omega arith))
last_part zero (suc len) (Block presence n ∷ rows) s holds all =
    let parts = and_parts _ _ holds in
    let block : (t : List ℕ) → IsOpen (part 0 (min n len) rows t) = λ t.
    elim (block_ends n rows parts.0) [
      | inl few ↦ open_before 0 (min n len) rows t parts.1 (omega arith)
      | inr none ↦ open_part 0 (min n len) rows t none
    ] in
    sequence_last (present presence (part 0 (min n len) rows) s) (part (min n len) (len - min n len) rows) (each_present IsNoTrailing presence (part 0 (min n len) rows) s block)
    (λ t. last_part (min n len) (len - min n len) rows t parts.1 (omega arith))
last_part zero (suc len) (Name name formula ∷ rows) s holds all = last_part 0 len rows (slice_set s name (value s formula)) holds (omega arith)

last_form : (rows : List Row) (s : List ℕ) → trails_last rows ≡ true → ComesLast (form_of rows s)
unfolding form_of
last_form rows s holds = last_part 0 (length rows) rows s holds (omega arith)

pub closes_at_the_end : ClosesAtTheEnd
closes_at_the_end rows s place values holds = closes_end (form_of rows s) place values (last_form rows s holds)

-- ---- several tables

last_present : (presence : Presence) (block : List ℕ → Form (List ℕ)) (s : List ℕ) → comes_once presence ≡ true → ((t : List ℕ) → ComesLast (block t)) → ComesLast (present presence block s)
unfolding present
last_present (When holds) block s once is = elim (value s holds == 0) as (λ b. ComesLast (cond b (done s) (block s))) [ true ↦ over_too | false ↦ is s ]
last_present (Repeat counter times) block s once is = absurd (cc)

-- nothing behind a form
alone : {A : Type 0} (f : Form A) → ComesLast f → ComesLast (f >>= done)
alone (done a) is = over_too
alone (field cell goes) (before none more) = before none (λ v. alone (goes v) (more v))
alone (field cell goes) (last ends) = last (λ v. ((ends v).0, subst (λ x. (x >>= done) ≡ done (ends v).0) (sym (ends v).1) refl))

pub open_parts : (parts : List Part) (s : List ℕ) → parts_have_trailing parts ≡ false → IsOpen (parts_form parts s)
unfolding sections_form parts_have_trailing
open_parts [] s none = tt
open_parts (part ∷ parts) s none =
    let both = or_parts (has_trailing part.rows.now) (parts_have_trailing parts) none in
    each_then IsNoTrailing (present part.presence (form_of part.rows.now) s) (parts_form parts) (each_present IsNoTrailing part.presence (form_of part.rows.now) s (λ t. open_form part.rows.now t both.0)) (λ t. open_parts parts t both.1)

pub last_parts : (parts : List Part) (s : List ℕ) → parts_trail_last parts ≡ true → ComesLast (parts_form parts s)
unfolding sections_form parts_trail_last
last_parts [] s holds = over_too
last_parts (part ∷ []) s holds =
    let both = and_parts (comes_once part.presence) (trails_last part.rows.now) holds in
    alone (present part.presence (form_of part.rows.now) s) (last_present part.presence (form_of part.rows.now) s both.0 (λ t. last_form part.rows.now t both.1))
last_parts (part ∷ next ∷ parts) s holds =
    let both = and_parts (not (has_trailing part.rows.now)) (parts_trail_last (next ∷ parts)) holds in
    sequence_last (present part.presence (form_of part.rows.now) s) (parts_form (next ∷ parts)) (each_present IsNoTrailing part.presence (form_of part.rows.now) s (λ t. open_form part.rows.now t (not-true _ both.0)))
    (λ t. last_parts (next ∷ parts) t both.1)

pub parts_close : PartsCloseWithoutTrailing
parts_close parts s place values rest none = closes (parts_form parts s) place values rest (open_parts parts s none)

pub parts_close_at_the_end : PartsCloseAtTheEnd
parts_close_at_the_end parts s place values holds = closes_end (parts_form parts s) place values (last_parts parts s holds)
