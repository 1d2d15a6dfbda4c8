use Rattle.vx_again.proofs.Standing.{units_can_stand}
use Rattle.vx_again.proofs.laws_streams.merged_units_can_stand.Goals as goal

pub returns : goal.returns
returns c = units_can_stand c.escaped_joins.ensures
