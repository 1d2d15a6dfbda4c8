use Rattle.vx_fit.proofs.Merged.{frame-merged}
use Rattle.vx_fit.proofs.laws.frame_of_regions.Goals as goal

pub returns : goal.returns
returns c = frame-merged
