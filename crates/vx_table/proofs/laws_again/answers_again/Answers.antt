use Rattle.vx_table.proofs.Again.{answers_again}
use Rattle.vx_table.proofs.laws_again.answers_again.Goals as goal

pub returns : goal.returns
returns c = answers_again
