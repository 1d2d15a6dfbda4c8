use Rattle.vx_pic.proofs.Sublayers.{kept_are_finished}
use Rattle.vx_pic.proofs.laws_sublayers.kept_are_finished.Goals as goal

pub returns : goal.returns
returns c = kept_are_finished
