use Rattle.vx_sh.proofs.Closed as closed
use Rattle.vx_sh.proofs.laws.reshaped_is_read_again.Goals as goal

pub returns : goal.returns
returns c = closed.reshaped_is_read_again
