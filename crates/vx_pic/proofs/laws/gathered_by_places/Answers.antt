use Rattle.vx_pic.proofs.ByPlaces.{gathered_by_places}
use Rattle.vx_pic.proofs.laws.gathered_by_places.Goals as goal

pub returns : goal.returns
returns c = gathered_by_places
