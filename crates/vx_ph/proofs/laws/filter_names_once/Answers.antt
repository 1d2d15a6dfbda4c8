use Rattle.vx_ph.proofs.Once.{filter_names_once}
use Rattle.vx_ph.proofs.laws.filter_names_once.Goals as goal

pub returns : goal.returns
returns c = filter_names_once
