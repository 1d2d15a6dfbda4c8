use Rattle.vx_pic.proofs.Determined.{have_one_answer}
use Rattle.vx_pic.proofs.laws_readers.readers_are_unique.Goals as goal

pub returns : goal.returns
returns c = have_one_answer c.one_answer.ensures
