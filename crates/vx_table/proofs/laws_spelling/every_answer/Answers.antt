use Rattle.vx_table.proofs.Every.{answers_always}
use Rattle.vx_table.proofs.laws_spelling.every_answer.Goals as goal

pub returns : goal.returns
returns c = answers_always
