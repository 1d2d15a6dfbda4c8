use Rattle.vx_pic.proofs.Going.{pictures_stay}
use Rattle.vx_pic.proofs.laws.pictures_stay.Goals as goal

pub returns : goal.returns
returns c = pictures_stay
