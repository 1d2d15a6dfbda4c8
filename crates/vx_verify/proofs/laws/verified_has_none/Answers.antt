use Rattle.vx_verify.proofs.Verdicts.{verified_has_none}
use Rattle.vx_verify.proofs.laws.verified_has_none.Goals as goal

pub returns : goal.returns
returns c = verified_has_none
