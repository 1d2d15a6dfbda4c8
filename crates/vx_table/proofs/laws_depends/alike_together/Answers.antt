use Rattle.vx_table.proofs.Shown.{alike_together}
use Rattle.vx_table.proofs.laws_depends.alike_together.Goals as goal

pub returns : goal.returns
returns c = alike_together
