use Rattle.vx_again.proofs.Orders.{is_whole_plan}
use Rattle.vx_again.proofs.laws_rounds.merged_is_whole.Goals as goal

pub returns : goal.returns
returns c = is_whole_plan c.sets_tell_partitions.ensures c.read_slices_are_listable.ensures
