use Rattle.vx_ph.proofs.Passing.{keeps_kept, shows_all}
use Rattle.vx_ph.proofs.laws.header_keeps.Goals as goal

pub returns : goal.returns
returns c = record { kept = keeps_kept; all = shows_all }
