use Rattle.vx_sei.proofs.Messages.{take_turn, not_ended, all_taken}
use Rattle.vx_sei.proofs.read.read_sei.Goals as goal

pub loop-front-preserved : goal.loop-front-preserved
loop-front-preserved c =
    take_turn c.args.rbsp.now c.loop-front.rest.now c.in-Some.front.rest.now c.loop-front.messages c.gather.new.messages (record { kind = c.in-Some.front.kind; bytes = c.in-Some.front.payload.now }) c.loop-front.invariant c.in-Some.ensures c.in_ok-gather.ensures

pub returns-then-not-is_end : goal.returns-then-not-is_end
returns-then-not-is_end c = λ ns. not_ended c.args.rbsp.now c.loop-front.rest.now c.loop-front.messages ns c.loop-front.invariant c.in_default.ensures (λ ended. cc (c.is_end.ensures.1 ended, c.if-not-is_end.true))

pub returns : goal.returns
returns c = all_taken c.args.rbsp.now c.loop-front.rest.now c.loop-front.messages c.loop-front.invariant (c.is_end.ensures.0 c.if-not-is_end.false)
