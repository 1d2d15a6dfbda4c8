use Rattle.vx_sei.proofs.Messages.{no_size, too_short}
use Rattle.vx_sei.proofs.read.split_message.Goals as goal

pub returns-in_err-size : goal.returns-in_err-size
returns-in_err-size c = rw c.from_residual-in_err-size.ensures (no_size c.args.bytes.now c.in_ok-kind.behind.now c.in_ok-kind.kind c.in_ok-kind.ensures c.in_err-size.ensures)

pub returns-then-size-behind : goal.returns-then-size-behind
returns-then-size-behind c =
    too_short c.args.bytes.now c.in_ok-kind.behind.now c.in_ok-size.behind.now c.in_ok-kind.kind c.in_ok-size.size c.in_ok-kind.ensures c.in_ok-size.ensures c.if-size-behind.true
