use Rattle.vx_pps.specs.Partition.{subpicture_slices}
use Rattle.vx_pps.specs.inner.Walked.{ended}
use Rattle.vx_pps.proofs.Walking.{then}
use Rattle.vx_pps.proofs.partition.code_subpictures.Goals as goal

pub returns : goal.returns
unfolding subpicture_slices
returns g c = then _ (rw c.in_ok-code_flag.was at c.code_flag.ensures) ended
