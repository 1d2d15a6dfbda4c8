-- How many bits the values of a structure have at most.
use Rattle.std.proofs.Common.{◌≡◌, inl, inr, ℕ, ℤ, pos, negsuc, zero, suc, ◌+◌, ◌-◌, ◌*◌, ◌/◌, ◌^◌, ◌<◌, ◌≤◌, min, Bool, true, false, cond, ◌&&◌, ◌||◌, ◌==◌, List, [], ◌∷◌, ◌++◌, length, slice_set, None, ap, sym, subst, ◌∙◌, arith}
use Rattle.std.specs.Prelude.{nat_le, nat_lt, not, replicate, int_le}
use Rattle.std.specs.Int.{div_ceil}
use Rattle.std.specs.Int.RustNames.{unsigned_abs}
use Rattle.std.proofs.Math.Nat.{div-add-mod, suc-mul, mul-le-mul, mul-le-mul_right}
use Rattle.std.proofs.lemmas.Bool.{and_parts, cases_Bool, leb-true, ltb-true}
use Rattle.std.proofs.lemmas.List.{length-append, length-replicate}
use Rattle.vx_bits.specs.Codes.{code_number, magnitude, leading_zeros, exp_golomb, fixed, to_boundary, zeros_from, one_from}
use Rattle.vx_bits.proofs.Bits.{length-fixed, pow_le}
use Rattle.vx_table.specs.declared.rows.Term.{Term}
use Rattle.vx_table.specs.declared.rows.Term.TheVariants.{Number, Latest}
use Rattle.vx_table.specs.declared.rows.Formula.{Formula}
use Rattle.vx_table.specs.declared.rows.Formula.TheVariants.{Plain, Plus, Minus, Times, Quotient, Least, PowerOfTwo, CeilLog2, Equal, Differs, Below, AtMost, Both, Either}
use Rattle.vx_table.specs.declared.rows.Coding.{Coding}
use Rattle.vx_table.specs.declared.rows.Coding.TheVariants.{Fixed, Golomb, SignedGolomb, Zeros, OneAndZeros, Trailing, Absent, Refused}
use Rattle.vx_table.specs.declared.rows.Limits.{Limits}
use Rattle.vx_table.specs.declared.rows.Limits.TheVariants as ranges
use Rattle.vx_table.specs.declared.rows.Cell.{Cell}
use Rattle.vx_table.specs.declared.rows.Presence.{Presence}
use Rattle.vx_table.specs.declared.rows.Presence.TheVariants.{When, Repeat}
use Rattle.vx_table.specs.declared.rows.Row.{Row}
use Rattle.vx_table.specs.declared.rows.Row.TheVariants.{Field, Block, Name}
use Rattle.vx_table.specs.Scope.{most, fresh, natural, latest, value, one_if, is_set, quotient, powers_below}
use Rattle.vx_table.specs.Forms.{Form, done, field, ◌>>=◌, has_value, coding_at, limits_at, cell_at, after, one_field, turns, present, part, form_of}
use Rattle.vx_table.specs.Parts.{sections_form}
use Rattle.vx_table.specs.EachField.{rows_pass}
use Rattle.vx_table.specs.Spelling.{HasCode, fault_of, is_multiple, code_of}
use Rattle.vx_table.specs.Values.{IsValueOf, Follows, to_end, through, bits_along}
use Rattle.vx_table.specs.laws.Sizes.{EachSpelling, Bound, greatest, IsWithin, greatest_term, greatest_value, greatest_coded, greatest_ranged, presence_keeps, row_keeps, sections_keep, code_bits, most_turns, part_bits, table_bits, sections_bits, IsShort, TablesAreShort, SectionsAreShort}
use Rattle.vx_table.proofs.Joined.{parted, bits_joined}
use Rattle.vx_table.proofs.Agreeing.{valued}
use Rattle.vx_table.proofs.Bounds.{unbroken, unbroken_multiple}
use Rattle.vx_table.proofs.Loading.{set_below, no_number, natural_most, natural_small, inside_below, before_below, multiple_below}

-- ---- what each spelling has

at_done : {A : Type 0} (Q : ℕ → A → Type 0) {a end : A} {values : List ℤ} (place : ℕ) → Q 0 a → Follows (done a) values end → Q (length (bits_along (done a) place values)) end
at_done Q place holds to_end = holds

pub spelling_done : {A : Type 0} (a : A) (Q : ℕ → A → Type 0) → Q 0 a → EachSpelling (done a) Q
spelling_done a Q holds = record { at = λ place values end follows. at_done Q place holds follows }

at_field : {A : Type 0} {cell : Cell ℕ} {goes : ℤ → Form A} {values : List ℤ} {end : A} (Q : ℕ → A → Type 0) (place : ℕ)
    → ((v : ℤ) → IsValueOf cell v → EachSpelling (goes v) (λ size a. Q (length (code_of cell.coding place v) + size) a)) → Follows (field cell goes) values end
    → Q (length (bits_along (field cell goes) place values)) end
at_field {cell} {goes} {end} Q place more (through {v} {w} is on) =
    let code : List Bool = code_of cell.coding place v in
    let rest : List Bool = bits_along (goes v) (place + length code) w in
    subst (λ n. Q n end) (sym (length-append code rest)) ((more v is).at (place + length code) w end on)

pub spelling_field : {A : Type 0} (cell : Cell ℕ) (goes : ℤ → Form A) (Q : ℕ → A → Type 0)
    → ((place : ℕ) (v : ℤ) → IsValueOf cell v → EachSpelling (goes v) (λ size a. Q (length (code_of cell.coding place v) + size) a)) → EachSpelling (field cell goes) Q
spelling_field cell goes Q more = record { at = λ place values end follows. at_field Q place (more place) follows }

pub spelling_then : {A B : Type 0} (form : Form A) (next : A → Form B) (P : ℕ → A → Type 0) (Q : ℕ → B → Type 0) → EachSpelling form P
    → ((n : ℕ) (a : A) → P n a → EachSpelling (next a) (λ m b. Q (n + m) b)) → EachSpelling (form >>= next) Q
spelling_then form next P Q first more = record {
  at = λ place values end follows.
      let parts = parted form next follows in
      let front : List Bool = bits_along form place parts.front in
      let rest : List Bool = bits_along (next parts.mid) (place + length front) parts.others in
      let bits : bits_along (form >>= next) place values ≡ front ++ rest
      = ap (λ w. bits_along (form >>= next) place w) parts.all ∙ bits_joined next place parts.others parts.first in
      subst (λ n. Q n end) (sym (ap length bits ∙ length-append front rest))
      ((more (length front) parts.mid (first.at place parts.front parts.mid parts.first)).at (place + length front) parts.others end parts.second);
}

pub spelling_weaker : {A : Type 0} (form : Form A) (P Q : ℕ → A → Type 0) → EachSpelling form P → ((n : ℕ) (a : A) → P n a → Q n a) → EachSpelling form Q
spelling_weaker form P Q is weaker = record { at = λ place values end follows. weaker _ end (is.at place values end follows) }

-- ---- codes

magnitude_most : (k n : ℕ) → magnitude k n ≤ k
unfolding magnitude
magnitude_most zero n = omega arith
magnitude_most (suc k) n = elim (nat_le (2 ^ suc k) n) as (λ b. cond b (suc k) (magnitude k n) ≤ suc k) [
  | true ↦ omega arith
  | false ↦ let less = magnitude_most k n in omega (arith, less)
]

golomb_most : (v : ℕ) → length (exp_golomb v) ≤ 63
unfolding exp_golomb leading_zeros
golomb_most v =
    let few = magnitude_most 31 (v + 1) in
    omega (arith, few, length-append (replicate (magnitude 31 (v + 1)) false) (fixed (magnitude 31 (v + 1) + 1) (v + 1)), length-replicate (magnitude 31 (v + 1)) false, length-fixed (magnitude 31 (v + 1) + 1) (v + 1))

zeros_most : (place : ℕ) → length (zeros_from place) ≤ 7
zeros_most place = omega (arith, length-replicate (to_boundary place) false)

stop_most : (place : ℕ) → length (one_from place) ≤ 8
stop_most place = omega (arith, zeros_most (place + 1))

-- the bits of a code, whatever the value
abbrev pub coded_bits : Coding ℕ → ℕ
coded_bits (Fixed n) = n
coded_bits Golomb = 63
coded_bits SignedGolomb = 63
coded_bits coding = 8

pub coded_most : (coding : Coding ℕ) (place : ℕ) (v : ℤ) → length (code_of coding place v) ≤ coded_bits coding
unfolding code_of
coded_most (Fixed n) place v = omega (arith, length-fixed n (unsigned_abs v))
coded_most Golomb place v = golomb_most (unsigned_abs v)
coded_most SignedGolomb place v = golomb_most (code_number v)
coded_most Zeros place v = omega (arith, zeros_most place)
coded_most OneAndZeros place v = stop_most place
coded_most Trailing place v = stop_most place
coded_most Absent place v = omega arith
coded_most Refused place v = omega arith

-- ---- numbers

powers_most : (k n : ℕ) → powers_below k n ≤ k
unfolding powers_below
powers_most zero n = omega arith
powers_most (suc k) n = elim (nat_lt (2 ^ k) n) as (λ b. powers_below k n + one_if b ≤ suc k) [
  | true ↦ let less = powers_most k n in omega (arith, less)
  | false ↦ let less = powers_most k n in omega (arith, less)
]

one_most : (b : Bool) → one_if b ≤ 1
one_most true = omega arith
one_most false = omega arith

quotient_most : (n d : ℕ) → quotient n d ≤ n
quotient_most n zero = omega arith
quotient_most n (suc d) = elim (suc d == 0) as (λ none. cond none 0 (div_ceil n (suc d)) ≤ n) [
  | true ↦ omega arith
  | false ↦ omega (arith, div-add-mod n (suc d), suc-mul d (n / suc d))
]

power_most : (n : ℕ) → cond (nat_lt n 32) (2 ^ n) most ≤ most
power_most n = elim (cases_Bool (nat_lt n 32)) [
  | inl small ↦ rw small (let less = pow_le n 31 (let few = ltb-true n 32 small in omega (arith, few)) in omega (arith, less))
  | inr large ↦ rw large (omega arith)
]

module _ (bounds : List Bound) where
  pub fresh_within : IsWithin bounds fresh
  unfolding fresh
  fresh_within = record { at = λ of. omega (arith, no_number 1024 of) }

  pub within_set : (s : List ℕ) (of v : ℕ) → IsWithin bounds s → v ≤ greatest bounds of → IsWithin bounds (slice_set s of v)
  within_set s of v within few = record {
    at = λ name.
        let here = within.at name in
        let set = set_below s of name v (suc (greatest bounds name)) (λ same. let at = subst (λ n. v ≤ greatest bounds n) same few in omega (arith, at)) (omega (arith, here)) in
        omega (arith, set);
  }

  term_within : (s : List ℕ) (a : Term) → IsWithin bounds s → latest s a ≤ greatest_term bounds a
  term_within s (Number n) within = omega arith
  term_within s (Latest of) within = within.at of

  pub value_within : (s : List ℕ) (formula : Formula) → IsWithin bounds s → value s formula ≤ greatest_value bounds formula
  unfolding value greatest_value
  value_within s (Plain a) within = term_within s a within
  value_within s (Plus a b) within = let one = term_within s a within in let other = term_within s b within in omega (arith, one, other)
  value_within s (Minus a b) within = let one = term_within s a within in omega (arith, one)
  value_within s (Times a b) within = let both = mul-le-mul (term_within s a within) (term_within s b within) in omega (arith, both)
  value_within s (Quotient a b) within = let one = term_within s a within in omega (arith, one, quotient_most (latest s a) (latest s b))
  value_within s (Least a b) within = let one = term_within s a within in let other = term_within s b within in omega (arith, one, other)
  value_within s (PowerOfTwo a) within = power_most (latest s a)
  value_within s (CeilLog2 a) within = powers_most 32 (latest s a)
  value_within s (Equal a b) within = one_most (latest s a == latest s b)
  value_within s (Differs a b) within = one_most (not (latest s a == latest s b))
  value_within s (Below a b) within = one_most (nat_lt (latest s a) (latest s b))
  value_within s (AtMost a b) within = one_most (nat_le (latest s a) (latest s b))
  value_within s (Both a b) within = one_most (is_set (latest s a) && is_set (latest s b))
  value_within s (Either a b) within = one_most (is_set (latest s a) || is_set (latest s b))

  -- a field's value, by its code and by its range
  coded_within : (s : List ℕ) (coding : Coding Formula) (v : ℤ) → IsWithin bounds s → HasCode (coding_at s coding) v → natural v ≤ greatest_coded bounds coding
  unfolding coding_at HasCode greatest_coded
  coded_within s (Fixed width) (pos v) within has =
      let width_most = value_within s width within in
      let powers = pow_le (min (value s width) 32) (min (greatest_value bounds width) 32) (omega (arith, width_most)) in
      let small = natural_small (2 ^ min (greatest_value bounds width) 32) v (omega (arith, powers, has)) in
      omega (arith, small)
  coded_within s (Fixed width) (negsuc v) within has = absurd has
  coded_within s coding v within has = natural_most v

  ranged_within : (s : List ℕ) (limits : Limits Formula) (v : ℤ) → IsWithin bounds s → fault_of (limits_at s limits) v ≡ None → natural v ≤ greatest_ranged bounds limits
  unfolding limits_at fault_of greatest_ranged
  ranged_within s ranges.Any v within none = natural_most v
  ranged_within s (ranges.Within low high fault) v within none =
      let most_high = value_within s high within in
      let small = inside_below low v (value s high) (suc (greatest_value bounds high)) (unbroken _ fault none) (omega (arith, most_high)) in
      omega (arith, small)
  ranged_within s (ranges.Below bound fault) v within none =
      let most_bound = value_within s bound within in
      let small = before_below v (value s bound) (suc (greatest_value bounds bound)) (unbroken _ fault none) (omega (arith, most_bound)) in
      omega (arith, small)
  ranged_within s (ranges.Multiple unit high fault) v within none =
      let small = multiple_below v high (suc high) (omega arith) (unbroken_multiple (int_le v (pos high)) (is_multiple unit v) fault none).0 (omega arith) in
      omega (arith, small)

  pub after_within : (s : List ℕ) (c : Cell Formula) (v : ℤ) → row_keeps bounds (Field c) ≡ true → IsWithin bounds s → IsValueOf (cell_at s c) v → IsWithin bounds (after s (cell_at s c) v)
  unfolding after row_keeps
  after_within s c v keeps within is =
      elim (cases_Bool (has_value c.coding)) [
        | inl has ↦
            let test = leb-true (min (greatest_coded bounds c.coding) (greatest_ranged bounds c.limits)) (greatest bounds c.field) (rw has at keeps) in
            let by_code = coded_within s c.coding v within is.code in
            let by_range = ranged_within s c.limits v within is.range in
            rw (valued s c.coding ∙ has) (within_set s c.field (natural v) within (omega (arith, test, by_code, by_range)))
        | inr none ↦ rw (valued s c.coding ∙ none) within
      ]

  -- ---- tables

  pub code_within : (s : List ℕ) (coding : Coding Formula) (place : ℕ) (v : ℤ) → IsWithin bounds s → length (code_of (coding_at s coding) place v) ≤ code_bits bounds coding
  unfolding coding_at code_of code_bits
  code_within s (Fixed width) place v within = let few = value_within s width within in omega (arith, few, length-fixed (min (value s width) 32) (unsigned_abs v))
  code_within s Golomb place v within = golomb_most (unsigned_abs v)
  code_within s SignedGolomb place v within = golomb_most (code_number v)
  code_within s Zeros place v within = zeros_most place
  code_within s OneAndZeros place v within = stop_most place
  code_within s Trailing place v within = stop_most place
  code_within s Absent place v within = omega arith
  code_within s Refused place v within = omega arith

  pub short_then : (form : Form (List ℕ)) (next : List ℕ → Form (List ℕ)) (n m : ℕ) → IsShort bounds n form → ((t : List ℕ) → IsWithin bounds t → IsShort bounds m (next t))
      → IsShort bounds (n + m) (form >>= next)
  short_then form next n m first more =
      spelling_then form next (λ size t. (size ≤ n) × IsWithin bounds t) (λ size t. (size ≤ n + m) × IsWithin bounds t) first
      (λ size t is. spelling_weaker (next t) (λ k u. (k ≤ m) × IsWithin bounds u) (λ k u. (size + k ≤ n + m) × IsWithin bounds u) (more t is.1)
      (λ k u few. (let one = is.0 in let other = few.0 in omega (arith, one, other), few.1)))

  -- a field, and what follows at the scope after each value
  pub short_field : (c : Cell Formula) (goes : List ℕ → Form (List ℕ)) (s : List ℕ) (m : ℕ) → row_keeps bounds (Field c) ≡ true → IsWithin bounds s
      → ((t : List ℕ) → IsWithin bounds t → IsShort bounds m (goes t)) → IsShort bounds (code_bits bounds c.coding + m) (one_field s c >>= goes)
  unfolding one_field
  short_field c goes s m keeps within more =
      spelling_field (cell_at s c) (λ v. goes (after s (cell_at s c) v)) (λ size t. (size ≤ code_bits bounds c.coding + m) × IsWithin bounds t)
      (λ place v is.
      let code : ℕ = length (code_of (coding_at s c.coding) place v) in
      let few = code_within s c.coding place v within in
      spelling_weaker (goes (after s (cell_at s c) v)) (λ k u. (k ≤ m) × IsWithin bounds u) (λ k u. (code + k ≤ code_bits bounds c.coding + m) × IsWithin bounds u)
      (more (after s (cell_at s c) v) (after_within s c v keeps within is)) (λ k u rest. (let other = rest.0 in omega (arith, few, other), rest.1)))

  -- turns of a block, where something holds before each that holds after it of the next
  pub short_turns : (block : List ℕ → Form (List ℕ)) (counter n turn times : ℕ) (Before : ℕ → List ℕ → Type 0) (s : List ℕ) → Before turn s
      → ((k : ℕ) (t : List ℕ) → k < turn + times → Before k t → EachSpelling (block (slice_set t counter k)) (λ size u. (size ≤ n) × Before (k + 1) u))
      → EachSpelling (turns block counter turn times s) (λ size u. (size ≤ times * n) × Before (turn + times) u)
  unfolding turns
  short_turns block counter n turn zero Before s before each =
      let here : turn + 0 ≡ turn = omega arith in
      spelling_done s (λ size u. (size ≤ zero * n) × Before (turn + 0) u) (omega arith, rw here before)
  short_turns block counter n turn (suc more) Before s before each =
      let there : turn + 1 + more ≡ turn + suc more = omega arith in
      let all : suc more * n ≡ more * n + n = suc-mul more n in
      spelling_then (block (slice_set s counter turn)) (turns block counter (turn + 1) more) (λ size t. (size ≤ n) × Before (turn + 1) t) (λ size u. (size ≤ suc more * n) × Before (turn + suc more) u)
      (each turn s (omega arith) before)
      (λ size t is. spelling_weaker (turns block counter (turn + 1) more t) (λ k u. (k ≤ more * n) × Before (turn + 1 + more) u) (λ k u. (size + k ≤ suc more * n) × Before (turn + suc more) u)
      (short_turns block counter n (turn + 1) more Before t is.1 (λ k u below. each k u (omega (arith, below))))
      (λ k u few. (let one = is.0 in let other = few.0 in omega (arith, all, one, other), subst (λ j. Before j u) there few.1)))

  pub short_present : (presence : Presence) (block : List ℕ → Form (List ℕ)) (n : ℕ) (s : List ℕ) → presence_keeps bounds presence ≡ true → IsWithin bounds s
      → ((t : List ℕ) → IsWithin bounds t → IsShort bounds n (block t)) → IsShort bounds (most_turns bounds presence * n) (present presence block s)
  unfolding present presence_keeps most_turns
  short_present (When holds) block n s keeps within is =
      elim (value s holds == 0) as (λ none. IsShort bounds (1 * n) (cond none (done s) (block s))) [
        | true ↦ spelling_done s (λ size end. (size ≤ 1 * n) × IsWithin bounds end) (omega arith, within)
        | false ↦ spelling_weaker (block s) (λ k u. (k ≤ n) × IsWithin bounds u) (λ k u. (k ≤ 1 * n) × IsWithin bounds u) (is s within) (λ k u few. (let one = few.0 in omega (arith, one), few.1))
      ]
  short_present (Repeat counter times) block n s keeps within is =
      let test = leb-true (greatest_value bounds times) (greatest bounds counter) keeps in
      let few = value_within s times within in
      let all = mul-le-mul_right n few in
      spelling_weaker (turns block counter 0 (value s times) s) (λ k u. (k ≤ value s times * n) × IsWithin bounds u) (λ k u. (k ≤ greatest_value bounds times * n) × IsWithin bounds u)
      (short_turns block counter n 0 (value s times) (λ k t. IsWithin bounds t) s within (λ k t below before. is (slice_set t counter k) (within_set t counter k before (omega (arith, test, few, below)))))
      (λ k u less. (let one = less.0 in omega (arith, all, one), less.1))

  -- a row that isn't a field
  block_keeps : (presence : Presence) (n : ℕ) → row_keeps bounds (Block presence n) ≡ true → presence_keeps bounds presence ≡ true
  unfolding row_keeps
  block_keeps presence n keeps = keeps

  pub name_within : (s : List ℕ) (name : ℕ) (formula : Formula) → row_keeps bounds (Name name formula) ≡ true → IsWithin bounds s → IsWithin bounds (slice_set s name (value s formula))
  unfolding row_keeps
  name_within s name formula keeps within =
      let test = leb-true (greatest_value bounds formula) (greatest bounds name) keeps in
      let few = value_within s formula within in
      within_set s name (value s formula) within (omega (arith, test, few))

  short_part : (skip len : ℕ) (rows : List Row) (s : List ℕ) → rows_pass (row_keeps bounds) rows ≡ true → IsWithin bounds s → IsShort bounds (part_bits bounds skip len rows) (part skip len rows s)
  unfolding part part_bits
  short_part zero len [] s h within = spelling_done s (λ size end. (size ≤ 0) × IsWithin bounds end) (omega arith, within)
  short_part (suc skip) len [] s h within = spelling_done s (λ size end. (size ≤ 0) × IsWithin bounds end) (omega arith, within)
  short_part (suc skip) len (row ∷ rows) s h within = short_part skip len rows s (and_parts (row_keeps bounds row) (rows_pass (row_keeps bounds) rows) h).1 within
  short_part zero zero (row ∷ rows) s h within = spelling_done s (λ size end. (size ≤ 0) × IsWithin bounds end) (omega arith, within)
  short_part zero (suc len) (Field c ∷ rows) s h within =
      let parts = and_parts (row_keeps bounds (Field c)) (rows_pass (row_keeps bounds) rows) h in
      short_field c (part 0 len rows) s (part_bits bounds 0 len rows) parts.0 within (λ t at. short_part 0 len rows t parts.1 at)
  short_part zero (suc len) (Block presence n ∷ rows) s h within =
      let parts = and_parts (row_keeps bounds (Block presence n)) (rows_pass (row_keeps bounds) rows) h in
      short_then (present presence (part 0 (min n len) rows) s) (part (min n len) (len - min n len) rows) (most_turns bounds presence * part_bits bounds 0 (min n len) rows) (part_bits bounds (min n len) (len - min n len) rows)
      (short_present presence (part 0 (min n len) rows) (part_bits bounds 0 (min n len) rows) s (block_keeps presence n parts.0) within (λ t at. short_part 0 (min n len) rows t parts.1 at))
      (λ t at. short_part (min n len) (len - min n len) rows t parts.1 at)
  short_part zero (suc len) (Name name formula ∷ rows) s h within =
      let parts = and_parts (row_keeps bounds (Name name formula)) (rows_pass (row_keeps bounds) rows) h in
      short_part 0 len rows (slice_set s name (value s formula)) parts.1 (name_within s name formula parts.0 within)

pub tables_are_short : TablesAreShort
unfolding form_of table_bits
tables_are_short bounds rows s h within = short_part bounds 0 (length rows) rows s h within

pub sections_are_short : SectionsAreShort
unfolding sections_form
sections_are_short bounds [] s h within = spelling_done s (λ size end. (size ≤ 0) × IsWithin bounds end) (omega arith, within)
sections_are_short bounds (section ∷ more) s h within =
    let parts = and_parts (presence_keeps bounds section.presence && rows_pass (row_keeps bounds) section.rows) (sections_keep bounds more) h in
    let here = and_parts (presence_keeps bounds section.presence) (rows_pass (row_keeps bounds) section.rows) parts.0 in
    short_then bounds (present section.presence (form_of section.rows) s) (sections_form more) (most_turns bounds section.presence * table_bits bounds section.rows) (sections_bits bounds more)
    (short_present bounds section.presence (form_of section.rows) (table_bits bounds section.rows) s here.0 within (λ t at. tables_are_short bounds section.rows t here.1 at))
    (λ t at. sections_are_short bounds more t parts.1 at)
