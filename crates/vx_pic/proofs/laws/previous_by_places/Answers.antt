use Rattle.vx_pic.proofs.Placed.{previous_by_places}
use Rattle.vx_pic.proofs.laws.previous_by_places.Goals as goal

pub returns : goal.returns
returns c = previous_by_places
