use Rattle.vx_pps.proofs.Giving.{bounds_read}
use Rattle.vx_pps.proofs.laws.bounds_are_read_back.Goals as goal

pub returns : goal.returns
returns c = bounds_read
