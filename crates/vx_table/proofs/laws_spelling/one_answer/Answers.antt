use Rattle.vx_table.proofs.Apart.{answers_one_way}
use Rattle.vx_table.proofs.laws_spelling.one_answer.Goals as goal

pub returns : goal.returns
returns c = answers_one_way
