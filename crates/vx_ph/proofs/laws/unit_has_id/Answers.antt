use Rattle.vx_ph.proofs.Id.{unit_has_id}
use Rattle.vx_ph.proofs.laws.unit_has_id.Goals as goal

pub returns : goal.returns
returns c = unit_has_id
