use Rattle.vx_pic.proofs.Finishing.{pictures_finished}
use Rattle.vx_pic.proofs.laws.pictures_are_finished.Goals as goal

pub returns : goal.returns
returns c = pictures_finished
