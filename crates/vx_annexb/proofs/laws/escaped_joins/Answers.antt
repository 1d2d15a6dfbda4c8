use Rattle.vx_annexb.proofs.Seam.{escaped_joins}
use Rattle.vx_annexb.proofs.laws.escaped_joins.Goals as goal

pub returns : goal.returns
returns c = escaped_joins
