use Rattle.vx_pic.proofs.Joining.{played_are_finished}
use Rattle.vx_pic.proofs.laws_joined.played_are_finished.Goals as goal

pub returns : goal.returns
returns c = played_are_finished
