use Rattle.vx_table.proofs.Rewrites.{sections_together}
use Rattle.vx_table.proofs.laws_rewritten.sections_together.Goals as goal

pub returns : goal.returns
returns c = sections_together
