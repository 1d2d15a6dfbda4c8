use Rattle.vx_layout.proofs.ReadBack.{heights_read, heights_some}
use Rattle.vx_layout.proofs.laws.heights_are_read_back.Goals as goal

pub returns-clause-read : goal.returns-clause-read
returns-clause-read c = heights_read

pub returns-clause-some : goal.returns-clause-some
returns-clause-some c = heights_some
