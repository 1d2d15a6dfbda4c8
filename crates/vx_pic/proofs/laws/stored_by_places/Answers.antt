use Rattle.vx_pic.proofs.Placed.{stored_by_places}
use Rattle.vx_pic.proofs.laws.stored_by_places.Goals as goal

pub returns : goal.returns
returns c = stored_by_places
