-- A table is its first row and then the rest.
use Rattle.std.specs.Prelude.{◌≡◌, ◌≤◌, ℕ, List, [], ◌∷◌, length, take, drop, slice_set}
use Rattle.vx_table.specs.declared.rows.Formula.{Formula}
use Rattle.vx_table.specs.declared.rows.Cell.{Cell}
use Rattle.vx_table.specs.declared.rows.Presence.{Presence}
use Rattle.vx_table.specs.declared.rows.Row.{Row}
use Rattle.vx_table.specs.declared.rows.Row.TheVariants.{Field, Block, Name}
use Rattle.vx_table.specs.Scope.{value}
use Rattle.vx_table.specs.Forms.{done, ◌>>=◌, one_field, present, form_of}

-- Without rows it is at its end.
abbrev pub EndsWithoutRows : Type 0
EndsWithoutRows = (s : List ℕ) → form_of [] s ≡ done s

-- A field, and then the rest at the scope after its value.
abbrev pub BeginsWithField : Type 0
BeginsWithField = (c : Cell Formula) (rows : List Row) (s : List ℕ) → form_of (Field c ∷ rows) s ≡ (one_field s c >>= form_of rows)

-- A block of the next n rows as often as it is present, and then the rows after these.
abbrev pub BeginsWithBlock : Type 0
BeginsWithBlock = (presence : Presence) (n : ℕ) (rows : List Row) (s : List ℕ) → n ≤ length rows
    → form_of (Block presence n ∷ rows) s ≡ (present presence (form_of (take n rows)) s >>= form_of (drop n rows))

-- The rest, at the scope in which the name has the formula's number.
abbrev pub BeginsWithName : Type 0
BeginsWithName = (name : ℕ) (formula : Formula) (rows : List Row) (s : List ℕ)
    → form_of (Name name formula ∷ rows) s ≡ form_of rows (slice_set s name (value s formula))
