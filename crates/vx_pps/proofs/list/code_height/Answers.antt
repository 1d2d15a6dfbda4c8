use Rattle.std.proofs.Common.{sym, ◌∙◌}
use Rattle.vx_pps.proofs.Turning.{height-last, height-taken, height-spelled}
use Rattle.vx_pps.proofs.list.code_height.Goals as goal

pub returns-then-row-down-clause-walk : goal.returns-then-row-down-clause-walk
returns-then-row-down-clause-walk g c = height-last c.args.tiles.now c.args.deltas c.args.tile c.args.before (rw (c.row-row.ensures, c.down-down.ensures) at c.if-row-down.true)

pub returns-then-not-spells_height-clause-walk : goal.returns-then-not-spells_height-clause-walk
returns-then-not-spells_height-clause-walk g c =
    height-taken c.args.tiles.now c.args.deltas c.args.tile c.args.before (rw (c.row-row.ensures, c.down-down.ensures) at c.if-row-down.false) (sym c.spells_height.ensures ∙ c.if-not-spells_height.true)

pub returns-clause-walk : goal.returns-clause-walk
returns-clause-walk g c =
    height-spelled c.args.tiles.now c.args.deltas c.args.tile c.args.before (rw (c.row-row.ensures, c.down-down.ensures) at c.if-row-down.false) (sym c.spells_height.ensures ∙ c.if-not-spells_height.false)
    (rw (c.row-row.ensures, c.down-down.ensures) at c.code_below.ensures.walk)
