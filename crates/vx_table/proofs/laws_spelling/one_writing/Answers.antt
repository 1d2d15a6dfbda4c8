use Rattle.vx_table.proofs.Writings.{items_apart}
use Rattle.vx_table.proofs.laws_spelling.one_writing.Goals as goal

pub returns : goal.returns
returns c = items_apart
