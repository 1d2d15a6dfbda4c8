use Rattle.vx_run.proofs.Ending.{status_2_exact}
use Rattle.vx_run.proofs.laws.status_2_is_exact.Goals as goal

pub returns : goal.returns
returns g c = status_2_exact
