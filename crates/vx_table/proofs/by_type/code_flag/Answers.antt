use Rattle.vx_table.specs.Scope.{value}
use Rattle.vx_table.specs.Forms.{one_field, coding_at, limits_at}
use Rattle.vx_table.proofs.by_type.code_flag.Goals as goal

pub returns : goal.returns
unfolding one_field coding_at limits_at value
returns g c = c.code_cell.ensures
