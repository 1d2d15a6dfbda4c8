use Rattle.vx_table.proofs.Bounds.{lie_in_range, parts_lie_in_range}
use Rattle.vx_table.proofs.laws_spelling.items_in_range.Goals as goal

pub returns : goal.returns
returns c = record { table = lie_in_range; parts = parts_lie_in_range }
