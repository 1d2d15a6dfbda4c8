use Rattle.vx_annexb.proofs.Seam.{unescaped_joins}
use Rattle.vx_annexb.proofs.laws.unescaped_joins.Goals as goal

pub returns : goal.returns
returns c = unescaped_joins
