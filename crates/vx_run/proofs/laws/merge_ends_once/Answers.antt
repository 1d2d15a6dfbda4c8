use Rattle.vx_merge.proofs.OnePlan.{merged_one}
use Rattle.vx_run.proofs.Once.{ends_once}
use Rattle.vx_run.proofs.laws.merge_ends_once.Goals as goal

pub returns : goal.returns
returns c = ends_once merged_one
