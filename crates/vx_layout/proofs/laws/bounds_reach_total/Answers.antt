use Rattle.vx_layout.proofs.Members.{bounds_of-reach}
use Rattle.vx_layout.proofs.laws.bounds_reach_total.Goals as goal

pub returns : goal.returns
returns c = bounds_of-reach
