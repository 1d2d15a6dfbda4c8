use Rattle.vx_ph.proofs.Id.{header_has_id}
use Rattle.vx_ph.proofs.laws.header_has_id.Goals as goal

pub returns : goal.returns
returns c = header_has_id
