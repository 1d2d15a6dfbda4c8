use Rattle.vx_fit.proofs.Framed.{AreFramed-from}
use Rattle.vx_fit.proofs.lines.fit_lines.Goals as goal

pub vertical_lines-requires : goal.vertical_lines-requires
vertical_lines-requires c = AreFramed-from c.args.corners.now c.args.parts.now c.requires.count.0 c.requires.sized c.requires.fitted

pub horizontal_lines-requires : goal.horizontal_lines-requires
horizontal_lines-requires c = AreFramed-from c.args.corners.now c.args.parts.now c.requires.count.0 c.requires.sized c.requires.fitted

pub lowest_broken-requires-clause-framed : goal.lowest_broken-requires-clause-framed
lowest_broken-requires-clause-framed c = AreFramed-from c.args.corners.now c.args.parts.now c.requires.count.0 c.requires.sized c.requires.fitted
