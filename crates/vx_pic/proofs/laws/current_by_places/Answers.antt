use Rattle.vx_pic.proofs.ByPlaces.{current_by_places}
use Rattle.vx_pic.proofs.laws.current_by_places.Goals as goal

pub returns : goal.returns
returns c = current_by_places
