use Rattle.vx_table.proofs.Again.{follows_again}
use Rattle.vx_table.proofs.laws_again.follows_again.Goals as goal

pub returns : goal.returns
returns c = follows_again
