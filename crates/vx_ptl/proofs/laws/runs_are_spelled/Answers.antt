use Rattle.vx_ptl.proofs.Structured.{runs_spelled}
use Rattle.vx_ptl.proofs.laws.runs_are_spelled.Goals as goal

pub returns : goal.returns
returns c = runs_spelled
