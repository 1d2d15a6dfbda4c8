use Rattle.vx_annexb.proofs.Seam.{escaped_unique}
use Rattle.vx_annexb.proofs.laws.escaped_is_unique.Goals as goal

pub returns : goal.returns
returns c = escaped_unique
