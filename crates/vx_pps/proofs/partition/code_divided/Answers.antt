use Rattle.vx_pps.specs.Partition.{divided}
use Rattle.vx_pps.specs.inner.Walked.{ended}
use Rattle.vx_pps.proofs.Ranges.{below_bound}
use Rattle.vx_pps.proofs.Walking.{then}
use Rattle.vx_pps.proofs.partition.code_divided.Goals as goal

pub ctus-columns-requires : goal.ctus-columns-requires
ctus-columns-requires g c = below_bound 3 c.in_ok-log2.log2 (rw c.below.ensures at c.in_ok-log2.ensures.range)

pub ctus-rows-requires : goal.ctus-rows-requires
ctus-rows-requires g c = below_bound 3 c.in_ok-log2.log2 (rw c.below.ensures at c.in_ok-log2.ensures.range)

pub returns : goal.returns
unfolding divided
returns g c =
    let log2 = rw (c.in_ok-log2.was, c.below.ensures) at c.code_fixed.ensures.walk in
    let tiles = rw (c.in_ok-tiles.was, c.ctus-columns.ensures.count, c.ctus-rows.ensures.count) at c.code_tiles.ensures.walk in
    let flags = rw c.in_ok-code_tile_flags.was at c.code_tile_flags.ensures in
    let single = rw c.in_ok-single.was at c.code_flag.ensures in
    let slices = rw c.in_ok-slices.was at c.code_slices_among.ensures in
    then _ log2 (then _ tiles (then _ flags (then _ single (then _ slices ended))))
