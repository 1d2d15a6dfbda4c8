use Rattle.vx_pps.proofs.Limits.{tiles_in_limits}
use Rattle.vx_pps.proofs.laws_sets.tiles_are_in_limits.Goals as goal

pub returns : goal.returns
returns c = tiles_in_limits
