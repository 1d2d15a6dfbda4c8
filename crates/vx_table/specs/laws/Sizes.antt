-- The greatest number of bits of the values of a structure, computed over its rows: each field's code has a greatest length, and
-- the turns of a block are bounded by the numbers that fields and names may have.
use Rattle.std.specs.Prelude.{◌≡◌, ℕ, ℤ, zero, suc, ◌+◌, ◌-◌, ◌*◌, ◌^◌, ◌≤◌, min, Bool, true, not, ◌&&◌, ◌||◌, ◌==◌, cond, nat_le, List, [], ◌∷◌}
use Rattle.std.specs.Prelude.{length, slice_index}
use Rattle.vx_table.specs.declared.rows.Term.{Term}
use Rattle.vx_table.specs.declared.rows.Term.TheVariants.{Number, Latest}
use Rattle.vx_table.specs.declared.rows.Formula.{Formula}
use Rattle.vx_table.specs.declared.rows.Formula.TheVariants.{Plain, Plus, Minus, Times, Quotient, Least, PowerOfTwo, CeilLog2, Equal}
use Rattle.vx_table.specs.declared.rows.Formula.TheVariants.{Differs, Below, AtMost, Both, Either}
use Rattle.vx_table.specs.declared.rows.Coding.{Coding}
use Rattle.vx_table.specs.declared.rows.Coding.TheVariants.{Fixed, Golomb, SignedGolomb, Zeros, OneAndZeros, Trailing, Absent, Refused}
use Rattle.vx_table.specs.declared.rows.Limits.{Limits}
use Rattle.vx_table.specs.declared.rows.Limits.TheVariants as ranges
use Rattle.vx_table.specs.declared.rows.Presence.{Presence}
use Rattle.vx_table.specs.declared.rows.Presence.TheVariants.{When, Repeat}
use Rattle.vx_table.specs.declared.rows.Row.{Row}
use Rattle.vx_table.specs.declared.rows.Row.TheVariants.{Field, Block, Name}
use Rattle.vx_table.specs.Scope.{most, capped}
use Rattle.vx_table.specs.Forms.{Form, has_value, form_of}
use Rattle.vx_table.specs.Parts.{Section, sections_form}
use Rattle.vx_table.specs.EachField.{rows_pass}
use Rattle.vx_table.specs.Values.{Follows, bits_along}

-- Wherever a structure begins, this holds of the number of its bits and of its end.
pub record EachSpelling {A : Type 0} (form : Form A) (Q : ℕ → A → Type 0) : Type 0 where
  pub at : (place : ℕ) (values : List ℤ) (end : A) → Follows form values end → Q (length (bits_along form place values)) end

-- ---- the numbers of fields and names

-- A field or name has at most this number.
pub record Bound : Type 0 where
  pub of : ℕ
  pub greatest : ℕ

-- The bound of a field or name among these; without one it is as wide as any number.
abbrev pub greatest : List Bound → ℕ → ℕ
greatest [] of = most
greatest (bound ∷ bounds) of = cond (bound.of == of) bound.greatest (greatest bounds of)

-- The numbers of a scope are within their bounds.
pub record IsWithin (bounds : List Bound) (s : List ℕ) : Type 0 where
  pub at : (of : ℕ) → slice_index s of ≤ greatest bounds of

-- The greatest values of formulas then,
abbrev pub greatest_term : List Bound → Term → ℕ
greatest_term bounds (Number n) = n
greatest_term bounds (Latest of) = greatest bounds of

unfoldable pub greatest_value : List Bound → Formula → ℕ
greatest_value bounds (Plain a) = greatest_term bounds a
greatest_value bounds (Plus a b) = capped (greatest_term bounds a + greatest_term bounds b)
greatest_value bounds (Minus a b) = greatest_term bounds a
greatest_value bounds (Times a b) = capped (greatest_term bounds a * greatest_term bounds b)
greatest_value bounds (Quotient a b) = greatest_term bounds a
greatest_value bounds (Least a b) = min (greatest_term bounds a) (greatest_term bounds b)
greatest_value bounds (PowerOfTwo a) = most
greatest_value bounds (CeilLog2 a) = 32
greatest_value bounds (Equal a b) = 1
greatest_value bounds (Differs a b) = 1
greatest_value bounds (Below a b) = 1
greatest_value bounds (AtMost a b) = 1
greatest_value bounds (Both a b) = 1
greatest_value bounds (Either a b) = 1

-- and the greatest numbers of a field's values, by its code and by its range.
unfoldable pub greatest_coded : List Bound → Coding Formula → ℕ
greatest_coded bounds (Fixed width) = 2 ^ min (greatest_value bounds width) 32 - 1
greatest_coded bounds coding = most

unfoldable pub greatest_ranged : List Bound → Limits Formula → ℕ
greatest_ranged bounds ranges.Any = most
greatest_ranged bounds (ranges.Within low high fault) = greatest_value bounds high
greatest_ranged bounds (ranges.Below bound fault) = greatest_value bounds bound
greatest_ranged bounds (ranges.Multiple unit high fault) = high

-- Rows are within the bounds: none gives a field, a name or the number of a turn a greater number.
unfoldable pub presence_keeps : List Bound → Presence → Bool
presence_keeps bounds (When holds) = true
presence_keeps bounds (Repeat counter times) = nat_le (greatest_value bounds times) (greatest bounds counter)

unfoldable pub row_keeps : List Bound → Row → Bool
row_keeps bounds (Field c) =
    not (has_value c.coding) || nat_le (min (greatest_coded bounds c.coding) (greatest_ranged bounds c.limits)) (greatest bounds c.field)
row_keeps bounds (Block presence n) = presence_keeps bounds presence
row_keeps bounds (Name name formula) = nat_le (greatest_value bounds formula) (greatest bounds name)

abbrev pub sections_keep : List Bound → List Section → Bool
sections_keep bounds [] = true
sections_keep bounds (section ∷ more) =
    (presence_keeps bounds section.presence && rows_pass (row_keeps bounds) section.rows) && sections_keep bounds more

-- ---- bits

-- The greatest number of bits of a code.
unfoldable pub code_bits : List Bound → Coding Formula → ℕ
code_bits bounds (Fixed width) = min (greatest_value bounds width) 32
code_bits bounds Golomb = 63
code_bits bounds SignedGolomb = 63
code_bits bounds Zeros = 7
code_bits bounds OneAndZeros = 8
code_bits bounds Trailing = 8
code_bits bounds Absent = 0
code_bits bounds Refused = 0

-- The greatest number of turns of a block.
unfoldable pub most_turns : List Bound → Presence → ℕ
most_turns bounds (When holds) = 1
most_turns bounds (Repeat counter times) = greatest_value bounds times

-- The bits of len rows after the first skip rows.
unfoldable pub part_bits : List Bound → ℕ → ℕ → List Row → ℕ
part_bits bounds skip len [] = 0
part_bits bounds (suc skip) len (row ∷ rows) = part_bits bounds skip len rows
part_bits bounds zero zero (row ∷ rows) = 0
part_bits bounds zero (suc len) (Field c ∷ rows) = code_bits bounds c.coding + part_bits bounds 0 len rows
part_bits bounds zero (suc len) (Block presence n ∷ rows) =
    most_turns bounds presence * part_bits bounds 0 (min n len) rows + part_bits bounds (min n len) (len - min n len) rows
part_bits bounds zero (suc len) (Name name formula ∷ rows) = part_bits bounds 0 len rows

-- The bits of a table, and of a structure of several.
unfoldable pub table_bits : List Bound → List Row → ℕ
table_bits bounds rows = part_bits bounds 0 (length rows) rows

abbrev pub sections_bits : List Bound → List Section → ℕ
sections_bits bounds [] = 0
sections_bits bounds (section ∷ more) =
    most_turns bounds section.presence * table_bits bounds section.rows + sections_bits bounds more

-- At most this many bits are spelled, and the numbers at the end are within their bounds.
abbrev pub IsShort : List Bound → ℕ → Form (List ℕ) → Type 0
IsShort bounds bits form = EachSpelling form (λ size end. (size ≤ bits) × IsWithin bounds end)

abbrev pub TablesAreShort : Type 0
TablesAreShort = (bounds : List Bound) (rows : List Row) (s : List ℕ) → rows_pass (row_keeps bounds) rows ≡ true → IsWithin bounds s
    → IsShort bounds (table_bits bounds rows) (form_of rows s)

abbrev pub SectionsAreShort : Type 0
SectionsAreShort = (bounds : List Bound) (sections : List Section) (s : List ℕ) → sections_keep bounds sections ≡ true → IsWithin bounds s
    → IsShort bounds (sections_bits bounds sections) (sections_form sections s)
