use Rattle.vx_pic.proofs.Sent.{needed_is_stored}
use Rattle.vx_pic.proofs.laws.needed_is_stored.Goals as goal

pub returns : goal.returns
returns c = needed_is_stored
