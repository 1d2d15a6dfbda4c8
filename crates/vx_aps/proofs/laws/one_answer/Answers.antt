use Rattle.vx_aps.proofs.Bytes.{one_answer}
use Rattle.vx_aps.proofs.laws.one_answer.Goals as goal

pub returns : goal.returns
returns c = one_answer
