use Rattle.vx_table.specs.Forms.{one_field}
use Rattle.vx_table.proofs.Blocks.{codable}
use Rattle.vx_table.proofs.by_type.code_field.Goals as goal

pub code_cell_outlined-requires : goal.code_cell_outlined-requires
code_cell_outlined-requires g c = rw c.cell-cell.ensures (codable c.args.scope.now c.args.row.now.coding)

pub returns : goal.returns
unfolding one_field
returns g c = rw c.cell-cell.ensures at c.code_cell_outlined.ensures
