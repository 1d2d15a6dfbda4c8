use Rattle.vx_again.proofs.OfMerge.{are_of_merge}
use Rattle.vx_again.proofs.Border.{stands_at}
use Rattle.vx_again.proofs.laws_whole.planned_are_of_merge.Goals as goal

pub returns : goal.returns
returns c = are_of_merge c.merged_are_planned.ensures c.sets_make_the_frame.ensures (stands_at c.sets_tell_partitions.ensures c.read_slices_are_listable.ensures) c.merged_sends_its_sets.ensures c.merged_keeps_inputs.ensures
