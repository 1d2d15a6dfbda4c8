-- Sets in a test of what fields depend on, and the test of rows and of parts after them.
use Rattle.std.specs.Prelude.{ℕ, Bool, ◌&&◌, List, ◌++◌}
use Rattle.vx_table.specs.declared.rows.Row.{Row}
use Rattle.vx_table.specs.declared.depends.Names.{Names, Listed, More'}
use Rattle.vx_table.specs.Parts.{Section}
use Rattle.vx_table.specs.Claims.{table_depends, behind_table, sections_chain}

-- The names of a set.
unfoldable pub listed : Names → List ℕ
listed (Listed all) = all.now
listed (More' more p others) = more.now ++ listed others

-- The test of rows, and of parts with what is known after these.
abbrev pub chain : List ℕ → List ℕ → List Row → List Section → Bool
chain shown known rows sections = table_depends shown known rows && sections_chain shown (behind_table shown known rows) sections
