use Rattle.vx_pps.specs.Partition.{tiles_among}
use Rattle.vx_pps.specs.inner.Walked.{ended, halted}
use Rattle.vx_pps.proofs.Walking.{then}
use Rattle.vx_pps.proofs.grid.code_tiles.Goals as goal

pub returns-in-Some-clause-walk : goal.returns-in-Some-clause-walk
unfolding tiles_among
returns-in-Some-clause-walk g c =
    let column = rw c.in_ok-last_column.was at c.code_below.ensures.walk in
    let row = rw c.in_ok-last_row.was at c.code_below-2.ensures.walk in
    let widths = rw c.in_ok-widths.was at c.code_sizes.ensures.walk in
    let heights = rw c.in_ok-heights.was at c.code_sizes-2.ensures.walk in
    rw c.in-Some.ensures.bounds (then _ column (then _ row (then _ widths (then _ heights ended))))

pub returns-clause-walk : goal.returns-clause-walk
returns-clause-walk g c = halted
