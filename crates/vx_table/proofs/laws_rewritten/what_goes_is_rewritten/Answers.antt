use Rattle.vx_table.proofs.Rewrites.{what_goes_is_rewritten}
use Rattle.vx_table.proofs.laws_rewritten.what_goes_is_rewritten.Goals as goal

pub returns : goal.returns
returns c = what_goes_is_rewritten
