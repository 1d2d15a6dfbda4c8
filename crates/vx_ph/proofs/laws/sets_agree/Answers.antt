use Rattle.vx_ph.proofs.Sets.{sets_agree}
use Rattle.vx_ph.proofs.laws.sets_agree.Goals as goal

pub returns : goal.returns
returns c = sets_agree
