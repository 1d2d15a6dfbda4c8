use Rattle.vx_table.proofs.Spelled.{spells_apart}
use Rattle.vx_table.proofs.laws_spelling.no_proper_prefix.Goals as goal

pub returns : goal.returns
returns c = spells_apart
