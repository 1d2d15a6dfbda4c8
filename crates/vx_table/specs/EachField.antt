-- Facts that hold for each field of a form, and a test of them over the rows of tables. Our own. Laws on tables rely on it.
use Rattle.std.specs.Prelude.{ℕ, ℤ, Bool, true, ◌&&◌, List, [], ◌∷◌}
use Rattle.vx_table.specs.declared.rows.Cell.{Cell}
use Rattle.vx_table.specs.declared.rows.Row.{Row}
use Rattle.vx_table.specs.Forms.{Form, done, field}
use Rattle.vx_table.specs.Parts.{Section}

-- A fact of each field, for any values before it.
abbrev pub EachField : {A : Type 0} → (Cell ℕ → Type 0) → Form A → Type 0
EachField P (done a) = Unit {0}
EachField P (field cell goes) = P cell × ((v : ℤ) → EachField P (goes v))

-- A test of each row.
abbrev pub rows_pass : (Row → Bool) → List Row → Bool
rows_pass test [] = true
rows_pass test (row ∷ rows) = test row && rows_pass test rows

abbrev pub sections_pass : (Row → Bool) → List Section → Bool
sections_pass test [] = true
sections_pass test (section ∷ more) = rows_pass test section.rows && sections_pass test more
