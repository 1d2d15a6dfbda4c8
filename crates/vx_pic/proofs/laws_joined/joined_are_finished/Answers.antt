use Rattle.vx_pic.proofs.Joining.{joined_are_finished}
use Rattle.vx_pic.proofs.laws_joined.joined_are_finished.Goals as goal

pub returns : goal.returns
returns c = joined_are_finished
