use Rattle.vx_rpl.proofs.Following.{lists_follow_items}
use Rattle.vx_rpl.proofs.laws.lists_follow_items.Goals as goal

pub returns : goal.returns
returns c = lists_follow_items
