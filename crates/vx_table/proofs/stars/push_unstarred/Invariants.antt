use Rattle.std.proofs.Common.{◌≡◌, ◌++◌, drop}
use Rattle.vx_table.specs.Unstarred.{unstarred_rows}
use Rattle.vx_table.proofs.stars.push_unstarred.Given as goal

-- the fields before, and those of the rows to come
abbrev pub invariant-loop-row : goal.invariant-loop-row
invariant-loop-row l = l.names ++ unstarred_rows (drop l.row-index l.table) ≡ l.fn.names ++ unstarred_rows l.fn.table
