use Rattle.vx_pps.proofs.Limits.{tells_partitions}
use Rattle.vx_pps.proofs.laws_sets.sets_tell_partitions.Goals as goal

pub returns : goal.returns
returns c = tells_partitions
