use Rattle.vx_rpl.proofs.Carrying.{lists_carry}
use Rattle.vx_rpl.proofs.laws.lists_carry.Goals as goal

pub returns : goal.returns
returns c = lists_carry
