use Rattle.vx_table.proofs.Absence.{hidden_have_no_items}
use Rattle.vx_table.proofs.laws_hidden.hidden_have_no_items.Goals as goal

pub returns : goal.returns
returns c = hidden_have_no_items
