use Rattle.vx_pic.proofs.Stream.{pictures_unique}
use Rattle.vx_pic.proofs.laws.pictures_are_unique.Goals as goal

pub returns : goal.returns
returns c = pictures_unique
