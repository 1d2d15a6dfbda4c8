use Rattle.vx_table.proofs.Shown.{scopes_follow_items}
use Rattle.vx_table.proofs.laws_depends.scopes_follow_items.Goals as goal

pub returns : goal.returns
returns c = scopes_follow_items
