use Rattle.vx_pps.proofs.Short.{spelling_is_short}
use Rattle.vx_pps.proofs.laws_sets.spelling_is_short.Goals as goal

pub returns : goal.returns
returns c = spelling_is_short
