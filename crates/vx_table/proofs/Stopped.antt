-- A structure that ends in a one and zeros up to the byte boundary: so it ends there, and its last byte isn't 00.
use Rattle.std.proofs.Common.{◌≡◌, ℕ, ℤ, zero, suc, ◌+◌, ◌-◌, ◌<◌, ◌≤◌, min, Bool, true, false, List, [], ◌∷◌, ◌++◌, length, drop, slice_set, refl, ap, sym, subst, ◌∙◌, arith}
use Rattle.std.specs.Prelude.{nat_lt, replicate, Contains}
use Rattle.std.proofs.lemmas.Bool.{and_parts, ltb-true}
use Rattle.std.proofs.lemmas.List.{append-nil, append_assoc, length-append, length-replicate, drop_at, drop-append-le}
use Rattle.vx_bits.specs.Codes.{fixed, bits_of, to_boundary, one_from, EndsInNoZero}
use Rattle.vx_bits.proofs.Alignment.{stop_is, no_one}
use Rattle.vx_bits.proofs.Bits.{length-fixed}
use Rattle.vx_table.specs.declared.rows.Formula.{Formula}
use Rattle.vx_table.specs.declared.rows.Coding.{Coding}
use Rattle.vx_table.specs.declared.rows.Coding.TheVariants.{Fixed, Golomb, SignedGolomb, Zeros, OneAndZeros, Trailing, Absent, Refused}
use Rattle.vx_table.specs.declared.rows.Cell.{Cell}
use Rattle.vx_table.specs.declared.rows.Row.{Row}
use Rattle.vx_table.specs.declared.rows.Row.TheVariants.{Field, Block, Name}
use Rattle.vx_table.specs.Scope.{value}
use Rattle.vx_table.specs.Forms.{Form, done, field, ◌>>=◌, coding_at, cell_at, one_field, present, part, form_of}
use Rattle.vx_table.specs.Parts.{Section, sections_form}
use Rattle.vx_table.specs.Spelling.{code_of}
use Rattle.vx_table.specs.Values.{Follows, through, bits_along}
use Rattle.vx_table.specs.Claims.{comes_always}
use Rattle.vx_table.specs.laws.Trailing.{EndsWithStop, EndsInStop, is_stop, ends_in_stop, TablesStop, sections_end_in_stop, SectionsStop, StopsTogether, StopsAtBoundary, StopsInNoZero}
use Rattle.vx_table.proofs.Chains.{there_always}
use Rattle.vx_table.proofs.Joined.{parted, bits_joined}

-- ---- one form behind another

pub stops_behind : {A B : Type 0} (form : Form A) (next : A → Form B) → ((a : A) → EndsInStop (next a)) → EndsInStop (form >>= next)
stops_behind form next ends = record {
  at = λ place values end follows.
      let parts = parted form next follows in
      let first : List Bool = bits_along form place parts.front in
      let last = (ends parts.mid).at (place + length first) parts.others end parts.second in
      let bits : bits_along (form >>= next) place values ≡ first ++ bits_along (next parts.mid) (place + length first) parts.others
      = ap (bits_along (form >>= next) place) parts.all ∙ bits_joined next place parts.others parts.first in
      let there : place + length (first ++ last.front) ≡ place + length first + length last.front = omega (arith, length-append first last.front) in
      record {
        front = first ++ last.front;
        all = bits ∙ ap (λ x. first ++ x) last.all ∙ sym (append_assoc first last.front (one_from (place + length first + length last.front)))
            ∙ ap (λ n. (first ++ last.front) ++ one_from n) (sym there);
      };
}

-- nothing more behind it
pub stops_end : {A B : Type 0} (form : Form A) (end : A → B) → EndsInStop form → EndsInStop (form >>= λ a. done (end a))
stops_end form end ends = record {
  at = λ place values b follows.
      let parts = parted form (λ a. done (end a)) follows in
      let first : List Bool = bits_along form place parts.front in
      let bits : bits_along (form >>= λ a. done (end a)) place values ≡ first ++ []
      = ap (bits_along (form >>= λ a. done (end a)) place) parts.all ∙ bits_joined (λ a. done (end a)) place parts.others parts.first in
      subst (λ x. EndsWithStop place x) (sym (bits ∙ append-nil first)) (ends.at place parts.front parts.mid parts.first);
}

pub stops_together : StopsTogether
stops_together form next ends = stops_behind form next ends

-- ---- the last field

no_bits : {A : Type 0} (f : Form A) (a : A) (place : ℕ) (w : List ℤ) → f ≡ done a → bits_along f place w ≡ []
no_bits f a place w is = rw is refl

stop_code : (s : List ℕ) (coding : Coding Formula) (place : ℕ) (v : ℤ) → is_stop coding ≡ true → code_of (coding_at s coding) place v ≡ one_from place
unfolding is_stop coding_at code_of
stop_code s (Fixed width) place v is = absurd (cc)
stop_code s Golomb place v is = absurd (cc)
stop_code s SignedGolomb place v is = absurd (cc)
stop_code s Zeros place v is = absurd (cc)
stop_code s OneAndZeros place v is = refl
stop_code s Trailing place v is = refl
stop_code s Absent place v is = absurd (cc)
stop_code s Refused place v is = absurd (cc)

stop_bits : {A : Type 0} {cell : Cell ℕ} {goes : ℤ → Form A} {values : List ℤ} {end : A} (place : ℕ) → ((v : ℤ) → code_of cell.coding place v ≡ one_from place)
    → ((v : ℤ) → (a : A) × (goes v ≡ done a)) → Follows (field cell goes) values end → EndsWithStop place (bits_along (field cell goes) place values)
stop_bits {cell} {goes} place is ends (through {v} {w} value on) =
    let none : bits_along (goes v) (place + length (code_of cell.coding place v)) w ≡ [] = no_bits (goes v) (ends v).0 (place + length (code_of cell.coding place v)) w (ends v).1 in
    let here : place + length {A = Bool} [] ≡ place = omega arith in
    record { front = []; all = rw (none, is v, here) (append-nil (one_from place)) }

stop_last : {A : Type 0} (cell : Cell ℕ) (goes : ℤ → Form A) → ((place : ℕ) (v : ℤ) → code_of cell.coding place v ≡ one_from place) → ((v : ℤ) → (a : A) × (goes v ≡ done a))
    → EndsInStop (field cell goes)
stop_last cell goes is ends = record { at = λ place values end follows. stop_bits place (is place) ends follows }

-- ---- tables

some_row : (rows : List Row) → ends_in_stop rows ≡ true → 1 ≤ length rows
unfolding ends_in_stop
some_row [] h = absurd (cc)
some_row (row ∷ rows) h = omega arith

behind_first : (row : Row) (rows : List Row) → ends_in_stop (row ∷ rows) ≡ true → 1 ≤ length rows → ends_in_stop rows ≡ true
unfolding ends_in_stop
behind_first (Field c) [] h some = absurd (omega arith)
behind_first (Field c) (row ∷ rows) h some = h
behind_first (Block presence n) rows h some = (and_parts (nat_lt n (length rows)) (ends_in_stop rows) h).1
behind_first (Name name formula) rows h some = h

stops_part : (skip len : ℕ) (rows : List Row) (s : List ℕ) → ends_in_stop rows ≡ true → skip + len ≡ length rows → 1 ≤ len → EndsInStop (part skip len rows s)
unfolding part one_field ends_in_stop
stops_part skip len [] s h all some = absurd (cc)
stops_part (suc skip) len (row ∷ rows) s h all some = stops_part skip len rows s (behind_first row rows h (omega arith)) (omega arith) some
stops_part zero zero (row ∷ rows) s h all some = absurd (omega arith)
stops_part zero (suc len) (Field c ∷ []) s h all some = stop_last (cell_at s c) _ (λ place v. stop_code s c.coding place v h) (λ v. (_, refl))
stops_part zero (suc len) (Field c ∷ row ∷ rows) s h all some =
    stops_behind (one_field s c) (part 0 len (row ∷ rows)) (λ t. stops_part 0 len (row ∷ rows) t h (omega arith) (omega arith))
stops_part zero (suc len) (Block presence n ∷ rows) s h all some =
    let parts = and_parts (nat_lt n (length rows)) (ends_in_stop rows) h in
    let inside = ltb-true n (length rows) parts.0 in
    stops_behind (present presence (part 0 (min n len) rows) s) (part (min n len) (len - min n len) rows)
    (λ t. stops_part (min n len) (len - min n len) rows t parts.1 (omega arith) (omega arith))
stops_part zero (suc len) (Name name formula ∷ rows) s h all some =
    let more = some_row rows h in
    stops_part 0 len rows (slice_set s name (value s formula)) h (omega arith) (omega arith)

pub tables_stop : TablesStop
unfolding form_of
tables_stop rows s h = stops_part 0 (length rows) rows s h (omega arith) (some_row rows h)

-- ---- structures of several tables

last_section : (section : Section) (s : List ℕ) → comes_always section.presence ≡ true → EndsInStop (form_of section.rows s) → EndsInStop (present section.presence (form_of section.rows) s >>= done)
last_section section s always ends =
    subst (λ f. EndsInStop (f >>= done)) (sym (there_always section.presence (form_of section.rows) s always)) (stops_end (form_of section.rows s) (λ t. t) ends)

pub sections_stop : SectionsStop
unfolding sections_form sections_end_in_stop
sections_stop [] s h = absurd (cc)
sections_stop (section ∷ []) s h =
    let parts = and_parts (comes_always section.presence) (ends_in_stop section.rows) h in
    last_section section s parts.0 (tables_stop section.rows s parts.1)
sections_stop (section ∷ next ∷ more) s h =
    stops_behind (present section.presence (form_of section.rows) s) (sections_form (next ∷ more)) (λ t. sections_stop (next ∷ more) t h)

-- ---- bytes

pub at_boundary : StopsAtBoundary
at_boundary place bits ends = omega (arith, ap length ends.all, length-append ends.front (one_from (place + length ends.front)), stop_is (place + length ends.front))

-- a byte whose bits have a one isn't 00
zero_bits : fixed 8 0 ≡ replicate 8 false
unfolding fixed
zero_bits = refl

one_within : (front : List Bool) (more : ℕ) → Contains (front ++ true ∷ replicate more false) true
one_within [] more = (0, omega arith, refl)
one_within (b ∷ front) more = let rest = one_within front more in (suc rest.0, omega (arith, rest.1), rest.2)

-- the bits behind the first eight
drop_eight : (byte : ℕ) (bits : List Bool) → drop 8 (fixed 8 byte ++ bits) ≡ bits
drop_eight byte bits = drop_at (fixed 8 byte) bits 8 (length-fixed 8 byte)

last_is : (bytes : List ℕ) (front : List Bool) (more : ℕ) → more < 8 → bits_of bytes ≡ front ++ true ∷ replicate more false → EndsInNoZero bytes
last_is [] front more few is k size none = absurd (omega (arith, size))
last_is (byte ∷ []) front more few is k size none =
    let first : k ≡ 0 = omega (arith, size) in
    let zero_byte : byte ≡ 0 = rw first at none in
    let bits : replicate 8 false ≡ front ++ true ∷ replicate more false = sym zero_bits ∙ sym (ap (fixed 8) zero_byte) ∙ sym (append-nil (fixed 8 byte)) ∙ is in
    no_one 8 (rw (sym bits) at (one_within front more))
last_is (byte ∷ next ∷ bytes) front more few is zero size none = absurd (omega (arith, size))
last_is (byte ∷ next ∷ bytes) front more few is (suc k) size none =
    let all : 8 + (8 + length (bits_of bytes)) ≡ length front + (1 + more)
    = omega (arith, ap length is, length-append (fixed 8 byte) (bits_of (next ∷ bytes)), length-append (fixed 8 next) (bits_of bytes), length-fixed 8 byte, length-fixed 8 next, length-append front (true ∷ replicate more false), length-replicate more false) in
    let long : 8 ≤ length front = omega arith in
    let rest : bits_of (next ∷ bytes) ≡ drop 8 front ++ true ∷ replicate more false
    = sym (drop_eight byte (bits_of (next ∷ bytes))) ∙ ap (drop 8) is ∙ drop-append-le 8 front (true ∷ replicate more false) long in
    last_is (next ∷ bytes) (drop 8 front) more few rest k (omega (arith, size)) none

pub last_byte : StopsInNoZero
last_byte bytes ends = last_is bytes ends.front (to_boundary (0 + length ends.front + 1)) (omega arith) ends.all
