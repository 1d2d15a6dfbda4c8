use Rattle.vx_pic.proofs.Counting.{alike_is_next}
use Rattle.vx_pic.proofs.laws.alike_is_next.Goals as goal

pub returns : goal.returns
returns c = alike_is_next
