-- The fields without a star. They are the kept ones: a written stream has them from its source, and they are compared. Definitions
-- of kept fields rely on it.
use Rattle.std.specs.Prelude.{ℕ, cond, List, [], ◌∷◌, ◌++◌}
use Rattle.vx_table.specs.declared.rows.Row.{Row}
use Rattle.vx_table.specs.declared.rows.Row.TheVariants.{Field, Block, Name}
use Rattle.vx_table.specs.Parts.{Section}

-- The field of a row: a gap has a star, unless it counts, with value 0, among the kept ones (our own).
abbrev pub unstarred_row : Row → List ℕ
unstarred_row (Field c) = cond c.kept (c.field ∷ []) []
unstarred_row (Block presence n) = []
unstarred_row (Name name formula) = []

-- Those of a table's rows (our own).
abbrev pub unstarred_rows : List Row → List ℕ
unstarred_rows [] = []
unstarred_rows (row ∷ rows) = unstarred_row row ++ unstarred_rows rows

-- Those of a structure, from all its tables (our own).
abbrev pub unstarred : List Section → List ℕ
unstarred [] = []
unstarred (section ∷ more) = unstarred_rows section.rows ++ unstarred more
