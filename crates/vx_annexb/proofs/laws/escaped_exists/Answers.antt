use Rattle.vx_annexb.proofs.EscapedBytes.{escaped_exists}
use Rattle.vx_annexb.proofs.laws.escaped_exists.Goals as goal

pub returns : goal.returns
returns c = escaped_exists
