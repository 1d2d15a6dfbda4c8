use Rattle.vx_table.proofs.Blocks.{codable}
use Rattle.vx_table.specs.Forms.{one_field}
use Rattle.vx_table.proofs.walk.code_field.Goals as goal

pub returns-in-Some : goal.returns-in-Some
unfolding one_field
returns-in-Some g c = rw (c.in-Some.ensures c.args.scope.now) at c.code_cell.ensures

pub returns : goal.returns
unfolding one_field
returns g c = rw c.cell-cell.ensures at c.code_cell-2.ensures

pub code_cell-requires : goal.code_cell-requires
code_cell-requires g c = rw (c.in-Some.ensures c.args.scope.now) (codable c.args.scope.now c.args.row.now.coding)

pub code_cell-requires-2 : goal.code_cell-requires-2
code_cell-requires-2 g c = rw c.cell-cell.ensures (codable _ _)
