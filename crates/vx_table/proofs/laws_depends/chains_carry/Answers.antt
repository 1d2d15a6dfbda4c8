use Rattle.vx_table.proofs.Chains.{carries_together, carries_present}
use Rattle.vx_table.proofs.laws_depends.chains_carry.Goals as goal

pub returns : goal.returns
returns c = record { together = carries_together; present = carries_present }
