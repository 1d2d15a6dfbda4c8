use Rattle.vx_annexb.proofs.Unseen.{seen_stays}
use Rattle.vx_annexb.proofs.laws.seen_stays.Goals as goal

pub returns : goal.returns
returns c = seen_stays
