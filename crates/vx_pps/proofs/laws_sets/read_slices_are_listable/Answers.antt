use Rattle.vx_pps.proofs.Limits.{listable}
use Rattle.vx_pps.proofs.laws_sets.read_slices_are_listable.Goals as goal

pub returns : goal.returns
returns c = listable
