use Rattle.vx_rpl.proofs.Following.{tables_follow_items}
use Rattle.vx_rpl.proofs.laws.tables_follow_items.Goals as goal

pub returns : goal.returns
returns c = tables_follow_items
