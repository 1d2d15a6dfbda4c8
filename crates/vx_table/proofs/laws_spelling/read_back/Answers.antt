use Rattle.vx_table.proofs.Spelled.{reads_back}
use Rattle.vx_table.proofs.laws_spelling.read_back.Goals as goal

pub returns : goal.returns
returns c = reads_back
