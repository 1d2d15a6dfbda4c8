use Rattle.vx_extract.proofs.AgainAgree.{agree_for_headers}
use Rattle.vx_extract.proofs.laws.rewritten_agree.Goals as goal

pub returns : goal.returns
returns c = λ target level q sps pps are re. agree_for_headers target level q sps pps are re c.sets_agree.ensures c.slice_scopes_agree.ensures.agree c.tables_follow_items.ensures c.lists_follow_items.ensures
