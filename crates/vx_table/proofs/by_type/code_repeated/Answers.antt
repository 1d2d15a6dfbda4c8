use Rattle.std.proofs.lemmas.Result.{err_from_is_err_and}
use Rattle.vx_table.proofs.Steps.{around, leads-turn, stop-turn, leads-no_turn}
use Rattle.vx_table.proofs.by_type.code_repeated.Goals as goal

pub loop-turn-preserved : goal.loop-turn-preserved
loop-turn-preserved g c =
    let walked = rw (c.in_ok-code.was, c.set.ensures) at c.code.ensures in
    leads-turn _ _ _ _ _ _ c.loop-turn-test.true c.loop-turn.invariant walked

pub returns-in_err-code : goal.returns-in_err-code
returns-in_err-code g c =
    let walked = rw (c.in_err-code.was, c.set.ensures) at c.code.ensures in
    let p = err_from_is_err_and c.from_residual.result c.from_residual.ensures.1 in
    let stopped = stop-turn _ _ _ _ _ c.loop-turn-test.true c.loop-turn.invariant walked in
    rw (p.1, p.2) (around _ _ _ _ (rw c.number_inlined-times.ensures at stopped))

pub returns : goal.returns
returns g c =
    let ended = leads-no_turn _ _ _ _ _ c.loop-turn-test.false c.loop-turn.invariant in
    around _ _ _ _ (rw c.number_inlined-times.ensures at ended)
