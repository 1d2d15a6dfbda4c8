use Rattle.std.proofs.Common.{◌+◌, ◌<◌, arith}
use Rattle.vx_pic.specs.Rules.{message_limit}
use Rattle.vx_assemble.proofs.Gathered.{spelled_past}
use Rattle.vx_assemble.proofs.gather.spelled_behind.Goals as goal

pub returns-then-more-total : goal.returns-then-more-total
unfolding message_limit
returns-then-more-total c =
    let most = c.loop-i.invariant.1 in
    let over : 65536 < c.loop-i.total + c.spelled_len-more.result = omega (arith, c.if-more-total.true, most) in
    spelled_past c.args.before c.loop-i.total c.spelled_len-more.result c.loop-i.i 65536 c.args.messages.now c.item-message.result.now
    c.item-message.ensures.value c.spelled_len-more.ensures c.loop-i.invariant.0 over
