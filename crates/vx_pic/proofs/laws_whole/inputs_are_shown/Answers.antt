use Rattle.vx_pic.proofs.ByAddress.{inputs_are_shown}
use Rattle.vx_pic.proofs.laws_whole.inputs_are_shown.Goals as goal

pub returns : goal.returns
returns c = inputs_are_shown
