use Rattle.vx_pps.proofs.Reshaping.{region_keeps}
use Rattle.vx_pps.proofs.laws_reshaped.region_keeps.Goals as goal

pub returns : goal.returns
returns c = region_keeps
