use Rattle.vx_sps.proofs.Short.{spelling_is_short}
use Rattle.vx_sps.proofs.laws.spelling_is_short.Goals as goal

pub returns : goal.returns
returns c = spelling_is_short
