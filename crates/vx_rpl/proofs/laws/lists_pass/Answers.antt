use Rattle.vx_rpl.proofs.Passing.{lists_show, lists_keep, lists_leave}
use Rattle.vx_rpl.proofs.laws.lists_pass.Goals as goal

pub returns : goal.returns
returns c = record { show = lists_show; keep = lists_keep; leave = lists_leave }
