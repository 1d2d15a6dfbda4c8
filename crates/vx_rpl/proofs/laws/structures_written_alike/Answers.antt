use Rattle.vx_rpl.proofs.Anywhere.{structures_written_alike}
use Rattle.vx_rpl.proofs.laws.structures_written_alike.Goals as goal

pub returns : goal.returns
returns c = structures_written_alike
