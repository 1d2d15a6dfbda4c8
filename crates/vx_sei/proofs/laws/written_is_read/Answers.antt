use Rattle.vx_sei.proofs.Messages.{written_read}
use Rattle.vx_sei.proofs.laws.written_is_read.Goals as goal

pub returns : goal.returns
returns c = written_read
