-- The fields and names that rows give numbers to: tables that read only given numbers and their own, and fields that only one row
-- codes. Our own. Laws on syntax structures rely on it.
use Rattle.std.specs.Prelude.{◌≢◌, ℕ, cond, List, [], ◌∷◌, ◌++◌}
use Rattle.std.specs.List.{AllPairs}
use Rattle.vx_table.specs.declared.rows.Presence.{Presence}
use Rattle.vx_table.specs.declared.rows.Presence.TheVariants.{When, Repeat}
use Rattle.vx_table.specs.declared.rows.Row.{Row}
use Rattle.vx_table.specs.declared.rows.Row.TheVariants.{Field, Block, Name}
use Rattle.vx_table.specs.Forms.{has_value, form_of}
use Rattle.vx_table.specs.Parts.{Section, sections_form}
use Rattle.vx_table.specs.Depends.{DependsOnlyOn}

-- What a row gives a number: its field, its name, its block's counter.
abbrev pub counter_of : Presence → List ℕ
counter_of (When holds) = []
counter_of (Repeat counter times) = counter ∷ []

abbrev pub named_by_row : Row → List ℕ
named_by_row (Field c) = c.field ∷ []
named_by_row (Block presence n) = counter_of presence
named_by_row (Name name formula) = name ∷ []

abbrev pub named_by : List Row → List ℕ
named_by [] = []
named_by (row ∷ rows) = named_by_row row ++ named_by rows

-- Of the scope at which it is read or written, a table reads only the given numbers: at two scopes that agree on these, it has the
-- same fields with the same codings and ranges, after the same values.
abbrev pub ReadsOnly : (given : List ℕ) → List Row → Type 0
ReadsOnly given rows = DependsOnlyOn given (named_by rows) (form_of rows)

-- The same for a structure of several tables.
abbrev pub named_by_all : List Section → List ℕ
named_by_all [] = []
named_by_all (section ∷ more) = (counter_of section.presence ++ named_by section.rows) ++ named_by_all more

abbrev pub SectionsReadOnly : (given : List ℕ) → List Section → Type 0
SectionsReadOnly given sections = DependsOnlyOn given (named_by_all sections) (sections_form sections)

-- The fields that rows code, without gaps.
abbrev pub coded_by_row : Row → List ℕ
coded_by_row (Field c) = cond (has_value c.coding) (c.field ∷ []) []
coded_by_row (Block presence n) = []
coded_by_row (Name name formula) = []

abbrev pub coded_by : List Row → List ℕ
coded_by [] = []
coded_by (row ∷ rows) = coded_by_row row ++ coded_by rows

abbrev pub coded_by_all : List (List Row) → List ℕ
coded_by_all [] = []
coded_by_all (table ∷ tables) = coded_by table ++ coded_by_all tables

-- No field is coded by two rows of these tables.
pub record CodedOnce (tables : List (List Row)) : Type 0 where
  pub differ : AllPairs (λ m n. m ≢ n) (coded_by_all tables)
