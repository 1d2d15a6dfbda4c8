use Rattle.vx_ptl.proofs.Reread.{writes_read}
use Rattle.vx_ptl.proofs.laws.writes_what_was_read.Goals as goal

pub returns : goal.returns
returns c = writes_read
