use Rattle.vx_pic.proofs.Stream.{pictures_exist}
use Rattle.vx_pic.proofs.laws.pictures_exist.Goals as goal

pub returns : goal.returns
returns c = pictures_exist
