use Rattle.vx_pps.specs.inner.Walked.{ended}
use Rattle.vx_pps.proofs.Walking.{then}
use Rattle.vx_pps.proofs.list.code_turn.Goals as goal

pub returns-clause-walk : goal.returns-clause-walk
returns-clause-walk g c =
    let width = rw c.in_ok-width.was at c.code_width.ensures.walk in
    let height = rw c.in_ok-height.was at c.code_height.ensures.walk in
    let slices = rw c.in_ok-code_slices.was at c.code_slices.ensures in
    let next = rw (c.in_ok-listed.was, c.spells_delta-spelled.ensures) at c.code_next.ensures in
    then _ width (then _ height (then _ slices (then _ next ended)))
