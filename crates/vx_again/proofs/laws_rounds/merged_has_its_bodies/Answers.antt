use Rattle.vx_again.proofs.HasBodies.{has_its_bodies}
use Rattle.vx_again.proofs.laws_rounds.merged_has_its_bodies.Goals as goal

pub returns : goal.returns
returns c = has_its_bodies c.sets_tell_partitions.ensures c.read_slices_are_listable.ensures c.slice_has_filter.ensures c.filter_names_once.ensures
