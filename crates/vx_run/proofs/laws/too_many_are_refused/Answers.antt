use Rattle.vx_run.proofs.Ending.{too_many_refused}
use Rattle.vx_run.proofs.laws.too_many_are_refused.Goals as goal

pub returns : goal.returns
returns g c = too_many_refused
