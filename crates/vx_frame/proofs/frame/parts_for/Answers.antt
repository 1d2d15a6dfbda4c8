use Rattle.std.proofs.lemmas.List.Elements.{All-from_recursion}
use Rattle.vx_write.specs.InForce.{AreInForce}
use Rattle.vx_frame.proofs.frame.parts_for.Goals as goal

pub sources-requires : goal.sources-requires
sources-requires c = All-from_recursion AreInForce c.args.round.now c.requires.1.made.are

pub layout_of-requires-clause-layout : goal.layout_of-requires-clause-layout
layout_of-requires-clause-layout c = c.requires.1.is.shapes.layout

pub layout_of-requires-clause-limits : goal.layout_of-requires-clause-limits
layout_of-requires-clause-limits c = c.requires.1.is.shapes.limits

pub sets_for-requires : goal.sets_for-requires
sets_for-requires c = (c.requires.0, c.requires.1.is)

pub returns-clause-sources : goal.returns-clause-sources
returns-clause-sources c = c.in_ok-sources.ensures

pub returns-clause-layout : goal.returns-clause-layout
returns-clause-layout c = c.in_ok-layout.ensures

pub returns-clause-sps : goal.returns-clause-sps
returns-clause-sps c = c.in_ok-sets.ensures.sps

pub returns-clause-plain : goal.returns-clause-plain
returns-clause-plain c = c.in_ok-sets.ensures.plain
