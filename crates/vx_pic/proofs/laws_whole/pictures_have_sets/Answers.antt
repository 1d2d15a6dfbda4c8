use Rattle.vx_pic.proofs.ReadSets.{pictures_have_sets}
use Rattle.vx_pic.proofs.laws_whole.pictures_have_sets.Goals as goal

pub returns : goal.returns
returns c = pictures_have_sets
