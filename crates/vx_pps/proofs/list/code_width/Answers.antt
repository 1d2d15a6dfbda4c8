use Rattle.vx_pps.proofs.Turning.{width-last, width-spelled}
use Rattle.vx_pps.proofs.list.code_width.Goals as goal

pub returns-then-column-across-clause-walk : goal.returns-then-column-across-clause-walk
returns-then-column-across-clause-walk g c = width-last c.args.tiles.now c.args.tile (rw (c.column-column.ensures, c.across-across.ensures) at c.if-column-across.true)

pub returns-clause-walk : goal.returns-clause-walk
returns-clause-walk g c =
    width-spelled c.args.tiles.now c.args.tile (rw (c.column-column.ensures, c.across-across.ensures) at c.if-column-across.false)
    (rw (c.column-column.ensures, c.across-across.ensures) at c.code_below.ensures.walk)
