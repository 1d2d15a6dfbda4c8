use Rattle.vx_sh.proofs.Closed as closed
use Rattle.vx_sh.proofs.laws.no_proper_prefix.Goals as goal

pub returns : goal.returns
returns c = closed.no_proper_prefix
