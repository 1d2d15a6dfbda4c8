use Rattle.vx_ptl.proofs.Structured.{structures_spelled}
use Rattle.vx_ptl.proofs.laws.structures_are_spelled.Goals as goal

pub returns : goal.returns
returns c = structures_spelled
