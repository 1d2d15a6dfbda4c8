use Rattle.vx_annexb.proofs.Steps.{Stands-finish}
use Rattle.vx_annexb.proofs.splitter.Splitter.finish.Goals as goal

pub returns-clause-stands : goal.returns-clause-stands
returns-clause-stands c g units s = Stands-finish _ g units (rw (← c.self.view_is) at s)
