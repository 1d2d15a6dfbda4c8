use Rattle.vx_sh.proofs.Closed as closed
use Rattle.vx_sh.proofs.laws.spelling_is_read.Goals as goal

pub returns : goal.returns
returns c = record { read = closed.spelling_is_read; begins = closed.spelling_begins }
