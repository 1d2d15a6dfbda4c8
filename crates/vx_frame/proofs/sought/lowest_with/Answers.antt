use Rattle.std.proofs.Common.{rules}
use Rattle.vx_frame.proofs.FirstTold.{lowest_told}
use Rattle.vx_frame.proofs.sought.lowest_with.Goals as goal

pub returns : goal.returns
returns c = lowest_told _ _ _ _ c.lowest_of.ensures (search rules) (search rules)
