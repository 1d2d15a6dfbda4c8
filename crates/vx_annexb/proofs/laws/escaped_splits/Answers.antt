use Rattle.vx_annexb.proofs.Seam.{escaped_splits}
use Rattle.vx_annexb.proofs.laws.escaped_splits.Goals as goal

pub returns : goal.returns
returns c = escaped_splits
