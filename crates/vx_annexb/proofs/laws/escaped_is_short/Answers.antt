use Rattle.vx_annexb.proofs.EmulationBytes.{escaped_short}
use Rattle.vx_annexb.proofs.laws.escaped_is_short.Goals as goal

pub returns : goal.returns
returns c = escaped_short
