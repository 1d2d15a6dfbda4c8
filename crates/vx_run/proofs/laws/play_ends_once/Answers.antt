use Rattle.vx_merge.proofs.OnePlan.{merged_one}
use Rattle.vx_run.proofs.PlayOnce.{play_once}
use Rattle.vx_run.proofs.laws.play_ends_once.Goals as goal

pub returns : goal.returns
returns c = play_once merged_one
