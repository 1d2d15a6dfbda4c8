use Rattle.vx_pps.proofs.Telling.{reshaped_tells}
use Rattle.vx_pps.proofs.laws_reshaped.reshaped_tells.Goals as goal

pub returns : goal.returns
returns c = reshaped_tells
