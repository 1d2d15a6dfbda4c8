use Rattle.std.proofs.Common.{◌≡◌, ◌*◌, false, ltb}
use Rattle.std.proofs.lemmas.Bool.{le-ltb}
use Rattle.vx_pps.specs.Partition.{tile_flags}
use Rattle.vx_pps.specs.Tiles.{across, down}
use Rattle.vx_pps.specs.inner.Walked.{ended}
use Rattle.vx_pps.proofs.partition.code_tile_flags.Goals as goal

pub returns-then-count-le1 : goal.returns-then-count-le1
unfolding tile_flags
returns-then-count-le1 g c =
    let count = rw c.count.ensures at c.if-count-le1.true in
    let one : ltb 1 (across c.args.tiles.now * down c.args.tiles.now) ≡ false = le-ltb 1 (across c.args.tiles.now * down c.args.tiles.now) count in
    rw one ended
