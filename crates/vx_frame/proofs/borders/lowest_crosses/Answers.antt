use Rattle.std.proofs.Common.{false, ◌∙◌}
use Rattle.vx_frame.specs.inner.Borders.{crosses, has_several}
use Rattle.vx_frame.proofs.Reading.{lowest_absent, lowest_read}
use Rattle.vx_frame.proofs.borders.lowest_crosses.Goals as goal

pub returns-in-Some : goal.returns-in-Some
returns-in-Some c =
    let lowest = rw c.in-Some.is at c.lowest_with_several.ensures in
    c.crosses.ensures ∙ lowest_read (has_several c.args.pieces) (crosses c.args.pieces) false c.args.round.now c.in-Some.k c.index-round-from.result lowest (rw c.from.ensures at c.index-round-from.is)

pub returns-in-None : goal.returns-in-None
returns-in-None c = lowest_absent (has_several c.args.pieces) (crosses c.args.pieces) false c.args.round.now (rw c.in-None.is at c.lowest_with_several.ensures)
