use Rattle.vx_ph.proofs.Short.{sets_are_bounded, spelling_is_short}
use Rattle.vx_ph.proofs.laws.spelling_is_short.Goals as goal

pub returns-clause-short : goal.returns-clause-short
returns-clause-short c = spelling_is_short

pub returns-clause-sets : goal.returns-clause-sets
returns-clause-sets c = sets_are_bounded
