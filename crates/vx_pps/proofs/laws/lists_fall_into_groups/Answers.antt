use Rattle.vx_pps.proofs.Grouping.{lists_fall}
use Rattle.vx_pps.proofs.laws.lists_fall_into_groups.Goals as goal

pub returns : goal.returns
returns c = lists_fall
