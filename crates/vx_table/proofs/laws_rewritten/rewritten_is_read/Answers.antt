use Rattle.vx_table.proofs.Rewrites.{rewritten_is_read}
use Rattle.vx_table.proofs.laws_rewritten.rewritten_is_read.Goals as goal

pub returns : goal.returns
returns c = rewritten_is_read
