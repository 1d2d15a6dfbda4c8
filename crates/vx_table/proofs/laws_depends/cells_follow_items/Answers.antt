use Rattle.vx_table.proofs.Shown.{cells_follow_items}
use Rattle.vx_table.proofs.laws_depends.cells_follow_items.Goals as goal

pub returns : goal.returns
returns c = cells_follow_items
