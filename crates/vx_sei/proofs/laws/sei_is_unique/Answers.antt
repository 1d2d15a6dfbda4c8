use Rattle.vx_sei.proofs.Messages.{sei_unique}
use Rattle.vx_sei.proofs.laws.sei_is_unique.Goals as goal

pub returns : goal.returns
returns c = sei_unique
