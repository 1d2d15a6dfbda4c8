use Rattle.vx_layout.specs.Layouts.{no_rect}
use Rattle.vx_pps.proofs.Pushing.{written_all, written_less}
use Rattle.vx_pps.proofs.list_items.written.Goals as goal

pub returns-then-slices-last : goal.returns-then-slices-last
returns-then-slices-last c = written_less c.args.slices.now no_rect c.requires c.if-slices-last.true

pub returns-else-slices-last : goal.returns-else-slices-last
returns-else-slices-last c = written_all c.args.slices.now no_rect c.requires c.if-slices-last.false
