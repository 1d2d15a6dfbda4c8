use Rattle.vx_pps.proofs.Few.{few_fall}
use Rattle.vx_pps.proofs.laws.few_fall_into_groups.Goals as goal

pub returns : goal.returns
returns c = few_fall
