-- The meaning of a table: the fields in order, each with its coding and range, and after each value how it goes on (H.266 7.1,
-- 7.2). All definitions of syntax structures rely on it.
use Rattle.std.specs.Prelude.{ℕ, ℤ, zero, suc, ◌+◌, ◌-◌, min, Bool, true, false, cond, ◌==◌, List, [], ◌∷◌, length, slice_set, Option}
use Rattle.std.specs.Prelude.{Some, None, ◌&&◌}
use Rattle.std.specs.Option.{option_or}
use Rattle.vx_table.specs.declared.rows.Formula.{Formula}
use Rattle.vx_table.specs.declared.rows.Coding.{Coding}
use Rattle.vx_table.specs.declared.rows.Coding.TheVariants.{Fixed, Golomb, SignedGolomb, Zeros, OneAndZeros, Trailing, Absent, Refused}
use Rattle.vx_table.specs.declared.rows.Limits.{Limits}
use Rattle.vx_table.specs.declared.rows.Limits.TheVariants.{Any, Within, Below, Multiple}
use Rattle.vx_table.specs.declared.rows.Cell.{Cell}
use Rattle.vx_table.specs.declared.rows.Row.{Row}
use Rattle.vx_table.specs.declared.rows.Row.TheVariants.{Field, Block, Name}
use Rattle.vx_table.specs.declared.rows.Presence.{Presence}
use Rattle.vx_table.specs.declared.rows.Presence.TheVariants.{When, Repeat}
use Rattle.vx_table.specs.Scope.{value, natural}

-- A structure: at its end, or at a field and how it goes on after each value of it (7.1, syntax in tabular form).
pub data Form (A : Type 0) : Type 0 where
  done : A → Form A
  field : Cell ℕ → (ℤ → Form A) → Form A

-- One structure after another (7.1).
infixl 10 ◌>>=◌
abbrev pub ◌>>=◌ : {A B : Type 0} → Form A → (A → Form B) → Form B
(done a) >>= next = next a
(field cell goes) >>= next = field cell (λ v. goes v >>= next)

-- A field's coding at a scope; no field is wider than 32 bits (descriptors, 7.2).
unfoldable pub coding_at : List ℕ → Coding Formula → Coding ℕ
coding_at s (Fixed width) = Fixed (min (value s width) 32)
coding_at s Golomb = Golomb
coding_at s SignedGolomb = SignedGolomb
coding_at s Zeros = Zeros
coding_at s OneAndZeros = OneAndZeros
coding_at s Trailing = Trailing
coding_at s Absent = Absent
coding_at s Refused = Refused

-- A field's range at a scope (7.4).
unfoldable pub limits_at : List ℕ → Limits Formula → Limits ℕ
limits_at s Any = Any
limits_at s (Within low high fault) = Within low (value s high) fault
limits_at s (Below bound fault) = Below (value s bound) fault
limits_at s (Multiple unit high fault) = Multiple unit high fault

-- Both (our own).
abbrev pub cell_at : List ℕ → Cell Formula → Cell ℕ
cell_at s c = record { field = c.field; kept = c.kept; coding = coding_at s c.coding; limits = limits_at s c.limits }

-- A field that has bits, and no gap (our own).
unfoldable pub has_value : {N : Type 0} → Coding N → Bool
has_value (Fixed width) = true
has_value Golomb = true
has_value SignedGolomb = true
has_value Zeros = false
has_value OneAndZeros = false
has_value Trailing = false
has_value Absent = false
has_value Refused = false

-- How a row codes the field with this number.
abbrev pub coding_in : Row → ℕ → Option (Coding Formula)
coding_in (Field c) of = cond (c.field == of && has_value c.coding) (Some c.coding) None
coding_in (Block presence n) of = None
coding_in (Name name formula) of = None

-- How a table codes it.
abbrev pub coding_of : List Row → ℕ → Option (Coding Formula)
coding_of [] of = None
coding_of (row ∷ rows) of = option_or (coding_in row of) (coding_of rows of)

-- The scope after a field's value (our own).
unfoldable pub after : List ℕ → Cell ℕ → ℤ → List ℕ
after s cell v = cond (has_value cell.coding) (slice_set s cell.field (natural v)) s

-- One field, and the scope after it (7.1).
unfoldable pub one_field : List ℕ → Cell Formula → Form (List ℕ)
one_field s c = field (cell_at s c) (λ v. done (after s (cell_at s c) v))

-- The turns of a block from this one on, where the block can read the number of its turn (a "for" of 7.1).
unfoldable pub turns : (List ℕ → Form (List ℕ)) → ℕ → ℕ → ℕ → List ℕ → Form (List ℕ)
turns block counter turn zero s = done s
turns block counter turn (suc more) s = block (slice_set s counter turn) >>= turns block counter (turn + 1) more

-- A block as often as it is present: once if the formula isn't 0, or in turns (an "if" or a "for" of 7.1).
unfoldable pub present : Presence → (List ℕ → Form (List ℕ)) → List ℕ → Form (List ℕ)
present (When holds) block s = cond (value s holds == 0) (done s) (block s)
present (Repeat counter times) block s = turns block counter 0 (value s times) s

-- The form of len rows after the first skip rows (7.1).
unfoldable pub part : ℕ → ℕ → List Row → List ℕ → Form (List ℕ)
part skip len [] s = done s
part (suc skip) len (row ∷ rows) s = part skip len rows s
part zero zero (row ∷ rows) s = done s
part zero (suc len) (Field c ∷ rows) s = one_field s c >>= part zero len rows
part zero (suc len) (Block presence n ∷ rows) s =
    present presence (part zero (min n len) rows) s >>= part (min n len) (len - min n len) rows
part zero (suc len) (Name name formula ∷ rows) s = part zero len rows (slice_set s name (value s formula))

-- The form of a table at a scope (7.1).
unfoldable pub form_of : List Row → List ℕ → Form (List ℕ)
form_of rows s = part 0 (length rows) rows s
