use Rattle.std.proofs.lemmas.Result.{err_from_is_err_and}
use Rattle.vx_calls.proofs.Example.{leads-share, stop-share, leads-no_share}
use Rattle.vx_calls.proofs.composite.code_shares.Goals as goal

pub loop-turn-preserved : goal.loop-turn-preserved
loop-turn-preserved g c =
    let walked = rw c.in_ok-left.was at c.code_share.ensures in
    leads-share _ _ _ _ _ (rw c.latest-turn-end.ensures at c.loop-turn-test.true) c.loop-turn.invariant walked

pub returns-in_err-left : goal.returns-in_err-left
returns-in_err-left g c =
    let walked = rw c.in_err-left.was at c.code_share.ensures in
    let p = err_from_is_err_and c.from_residual.result c.from_residual.ensures.1 in
    rw (p.1, p.2) (stop-share _ _ _ _ (rw c.latest-turn-end.ensures at c.loop-turn-test.true) c.loop-turn.invariant walked)

pub returns : goal.returns
returns g c = leads-no_share _ _ _ _ (rw c.latest-turn-end.ensures at c.loop-turn-test.false) c.loop-turn.invariant
