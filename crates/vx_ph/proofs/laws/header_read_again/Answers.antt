use Rattle.vx_ph.proofs.Passing.{header_read_again}
use Rattle.vx_ph.proofs.laws.header_read_again.Goals as goal

pub returns : goal.returns
returns c = header_read_again
