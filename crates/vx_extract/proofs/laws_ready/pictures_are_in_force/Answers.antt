use Rattle.vx_extract.proofs.ReadyLayout.{pictures_are_in_force}
use Rattle.vx_extract.proofs.laws_ready.pictures_are_in_force.Goals as goal

pub returns : goal.returns
returns c = pictures_are_in_force c.sets_tell_partitions.ensures c.pictures_are_finished.ensures c.pictures_have_sets.ensures
