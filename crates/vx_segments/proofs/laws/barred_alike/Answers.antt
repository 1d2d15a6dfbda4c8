use Rattle.vx_segments.proofs.Joining.{barred_alike}
use Rattle.vx_segments.proofs.laws.barred_alike.Goals as goal

pub returns : goal.returns
returns c = barred_alike
