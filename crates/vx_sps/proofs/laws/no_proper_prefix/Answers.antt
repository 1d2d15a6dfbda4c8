use Rattle.vx_sps.proofs.Written.{no_proper_prefix}
use Rattle.vx_sps.proofs.laws.no_proper_prefix.Goals as goal

pub returns : goal.returns
returns c = no_proper_prefix
