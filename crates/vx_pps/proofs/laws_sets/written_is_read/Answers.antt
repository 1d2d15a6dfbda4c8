use Rattle.vx_pps.proofs.Spelling.{written_is_read}
use Rattle.vx_pps.proofs.laws_sets.written_is_read.Goals as goal

pub returns : goal.returns
returns c = written_is_read
