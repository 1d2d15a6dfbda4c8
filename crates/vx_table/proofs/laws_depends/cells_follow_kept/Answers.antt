use Rattle.vx_table.proofs.Starred.{cells_follow_kept}
use Rattle.vx_table.proofs.laws_depends.cells_follow_kept.Goals as goal

pub returns : goal.returns
returns c = cells_follow_kept
