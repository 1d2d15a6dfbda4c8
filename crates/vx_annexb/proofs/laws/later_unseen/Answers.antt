use Rattle.vx_annexb.proofs.Unseen.{later_unseen}
use Rattle.vx_annexb.proofs.laws.later_unseen.Goals as goal

pub returns : goal.returns
returns c = later_unseen
