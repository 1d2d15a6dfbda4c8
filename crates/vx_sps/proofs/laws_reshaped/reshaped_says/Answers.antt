use Rattle.vx_sps.proofs.Says.{reshaped_says}
use Rattle.vx_sps.proofs.laws_reshaped.reshaped_says.Goals as goal

pub returns : goal.returns
returns c = reshaped_says
