use Rattle.vx_sei.proofs.Messages.{carried_shorter}
use Rattle.vx_sei.proofs.laws.carried_is_shorter.Goals as goal

pub returns : goal.returns
returns c = carried_shorter
