use Rattle.vx_merge.proofs.OnePlan.{merged_one}
use Rattle.vx_merge.proofs.laws.merged_is_one.Goals as goal

pub returns : goal.returns
returns c = merged_one
