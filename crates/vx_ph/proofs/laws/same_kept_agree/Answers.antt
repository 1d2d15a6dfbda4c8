use Rattle.vx_ph.proofs.Same.{same_kept_agree}
use Rattle.vx_ph.proofs.laws.same_kept_agree.Goals as goal

pub returns : goal.returns
returns c = same_kept_agree
