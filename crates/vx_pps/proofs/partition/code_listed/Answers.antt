use Rattle.vx_pps.specs.Partition.{listed_slices}
use Rattle.vx_pps.specs.inner.Walked.{ended}
use Rattle.vx_pps.proofs.Walking.{then}
use Rattle.vx_pps.proofs.partition.code_listed.Goals as goal

pub returns : goal.returns
unfolding listed_slices
returns g c =
    let last = rw c.in_ok-last.was at c.code_last.ensures.walk in
    let deltas = rw c.in_ok-deltas.was at c.code_deltas.ensures in
    let slices = rw c.in_ok-slices.was at c.code_list.ensures in
    let flag = rw (c.in_ok-code_across.was, c.is_some.ensures) at c.code_across.ensures in
    then _ last (then _ deltas (then _ slices (then _ flag ended)))
