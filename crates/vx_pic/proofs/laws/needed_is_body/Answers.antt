use Rattle.vx_pic.proofs.Sent.{needed_is_body}
use Rattle.vx_pic.proofs.laws.needed_is_body.Goals as goal

pub returns : goal.returns
returns c = needed_is_body
