use Rattle.vx_pps.specs.Pps.{pps_form}
use Rattle.vx_pps.specs.inner.Walked.{ended}
use Rattle.vx_pps.proofs.Walking.{then}
use Rattle.vx_pps.proofs.walk.code_pps.Goals as goal

pub returns : goal.returns
unfolding pps_form
returns g c =
    let front = rw (c.in_ok-code_front.was, c.new-scope.ensures) at c.code_front.ensures in
    let partition = rw (c.in_ok-partition.was, c.latest-whole.ensures, c.latest-width.ensures, c.latest-height.ensures) at c.code_partition.ensures in
    let tools = rw c.in_ok-code_tools.was at c.code_tools.ensures in
    then _ front (then _ partition (then _ tools ended))
