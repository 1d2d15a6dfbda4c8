use Rattle.vx_table.proofs.Chains.{sets_carry, steps_carry}
use Rattle.vx_table.proofs.laws_depends.steps_carry.Goals as goal

pub returns : goal.returns
returns c = record { set = sets_carry; step = steps_carry }
