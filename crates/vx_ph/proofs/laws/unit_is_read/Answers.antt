use Rattle.vx_ph.proofs.Opening.{unit_is_read}
use Rattle.vx_ph.proofs.laws.unit_is_read.Goals as goal

pub returns : goal.returns
returns c = unit_is_read
