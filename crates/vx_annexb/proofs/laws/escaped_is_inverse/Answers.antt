use Rattle.vx_annexb.proofs.Inverse.{escaped_inverse}
use Rattle.vx_annexb.proofs.laws.escaped_is_inverse.Goals as goal

pub returns : goal.returns
returns c = escaped_inverse
