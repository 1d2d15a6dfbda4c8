use Rattle.vx_sh.proofs.Short.{numbers_are_bounded, spelling_is_short}
use Rattle.vx_sh.proofs.laws.spelling_is_short.Goals as goal

pub returns-clause-short : goal.returns-clause-short
returns-clause-short c = spelling_is_short

pub returns-clause-numbers : goal.returns-clause-numbers
returns-clause-numbers c = numbers_are_bounded
