use Rattle.vx_pic.proofs.Stream.{written_has_pictures}
use Rattle.vx_pic.proofs.laws.written_has_pictures.Goals as goal

pub returns : goal.returns
returns c = written_has_pictures
