use Rattle.vx_table.proofs.Apart.{reads_one_way}
use Rattle.vx_table.proofs.laws_spelling.one_reading.Goals as goal

pub returns : goal.returns
returns c = reads_one_way
