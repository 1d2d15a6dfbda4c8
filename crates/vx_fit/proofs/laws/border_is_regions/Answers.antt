use Rattle.vx_fit.proofs.Border.{border_is_regions}
use Rattle.vx_fit.proofs.laws.border_is_regions.Goals as goal

pub returns : goal.returns
returns c = border_is_regions
