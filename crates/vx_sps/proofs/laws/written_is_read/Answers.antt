use Rattle.vx_sps.proofs.Written.{written_is_read}
use Rattle.vx_sps.proofs.laws.written_is_read.Goals as goal

pub returns : goal.returns
returns c = written_is_read
