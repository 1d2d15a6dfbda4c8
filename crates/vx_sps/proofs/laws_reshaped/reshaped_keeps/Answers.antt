use Rattle.vx_sps.proofs.Says.{reshaped_keeps}
use Rattle.vx_sps.proofs.laws_reshaped.reshaped_keeps.Goals as goal

pub returns : goal.returns
returns c = reshaped_keeps
