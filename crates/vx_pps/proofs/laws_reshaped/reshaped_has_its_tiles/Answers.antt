use Rattle.vx_pps.proofs.Reshaping.{has_its_tiles}
use Rattle.vx_pps.proofs.laws_reshaped.reshaped_has_its_tiles.Goals as goal

pub returns : goal.returns
returns c = has_its_tiles
