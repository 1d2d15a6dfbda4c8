use Rattle.vx_pic.proofs.Stream.{seen_pictures_stay}
use Rattle.vx_pic.proofs.laws.seen_pictures_stay.Goals as goal

pub returns : goal.returns
returns c = seen_pictures_stay
