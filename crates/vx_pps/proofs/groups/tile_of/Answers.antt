use Rattle.std.proofs.Common.{◌≡◌, ◌*◌, ◌<◌, arith}
use Rattle.std.proofs.Math.Nat.{div-add-mod, mod-lt}
use Rattle.vx_pps.specs.Tiles.{across, column, down, row}
use Rattle.vx_pps.proofs.Blocks.{row_inside}
use Rattle.vx_pps.proofs.groups.tile_of.Goals as goal

pub returns-clause-tile : goal.returns-clause-tile
returns-clause-tile c = λ t inside left top.
    let some : 0 < across c.args.tiles.now = omega (arith, c.requires.columns) in
    let in_row : row c.args.tiles.now t < down c.args.tiles.now = row_inside c.args.tiles.now t inside in
    let column_is = c.index_of-column.ensures.index (column c.args.tiles.now t) (omega (arith, mod-lt t some)) left in
    let row_is = c.index_of-row.ensures.index (row c.args.tiles.now t) (omega (arith, in_row)) top in
    let rows : c.index_of-row.result * c.across.result ≡ across c.args.tiles.now * row c.args.tiles.now t = rw (c.across.ensures, row_is) (omega arith) in
    omega (arith, rows, column_is, div-add-mod t (across c.args.tiles.now))
