use Rattle.vx_annexb.proofs.AnnexB.{units_can_stand}
use Rattle.vx_annexb.proofs.laws.units_can_stand.Goals as goal

pub returns : goal.returns
returns c = units_can_stand
