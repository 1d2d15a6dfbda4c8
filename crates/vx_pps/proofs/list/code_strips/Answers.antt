use Rattle.std.proofs.Common.{◌++◌, ◌∙◌, ap}
use Rattle.std.proofs.lemmas.Result.{err_from_is_err_and}
use Rattle.vx_pps.specs.inner.Walked.{halted}
use Rattle.vx_pps.proofs.Turning.{strips-turn, strips-stop, strips-end}
use Rattle.vx_pps.proofs.list.code_strips.Goals as goal

pub returns-in_err-size : goal.returns-in_err-size
returns-in_err-size g c =
    let p = err_from_is_err_and c.from_residual.result c.from_residual.ensures.1 in
    let walked = rw c.in_err-size.was at c.code_strip.ensures.walk in
    rw (p.1, p.2) (strips-stop c.args.tile c.args.last c.args.explicit c.loop-turn.turn c.loop-turn.y c.loop-turn.size c.args.slices.now c.loop-turn.slices c.loop-turn-test.true c.loop-turn.invariant walked)

pub returns-in_default : goal.returns-in_default
returns-in_default g c = halted

pub loop-turn-preserved : goal.loop-turn-preserved
loop-turn-preserved g c =
    let walked = rw c.in_ok-size.was at c.code_strip.ensures.walk in
    let all = c.in-Ok.ensures.ok ∙ ap (λ s. c.loop-turn.slices ++ s) c.strip.ensures in
    strips-turn c.args.tile c.args.last c.args.explicit c.loop-turn.turn c.loop-turn.y c.loop-turn.size c.in_ok-size.size c.args.slices.now c.loop-turn.slices c.push.new.self
    c.loop-turn-test.true c.loop-turn.invariant walked c.in_ok-size.ensures.height.0 c.in_ok-size.ensures.height.1 all

pub returns-in-Ok-push_strips : goal.returns-in-Ok-push_strips
returns-in-Ok-push_strips g c =
    strips-end c.args.tile c.args.last c.args.explicit c.loop-turn.turn c.loop-turn.y c.loop-turn.size c.args.slices.now c.loop-turn.slices c.push_strips.new.slices
    c.loop-turn-test.false c.loop-turn.invariant c.in-Ok-push_strips.ensures

pub returns-in-Err : goal.returns-in-Err
returns-in-Err g c = halted
