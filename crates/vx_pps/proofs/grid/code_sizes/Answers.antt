use Rattle.std.proofs.lemmas.Result.{err_from_is_err_and}
use Rattle.vx_pps.specs.inner.Walked.{halted}
use Rattle.vx_pps.proofs.Sizing.{sizes-begin, sizes-more, sizes-stop, sizes-end}
use Rattle.vx_pps.proofs.grid.code_sizes.Goals as goal

pub loop-turn-init : goal.loop-turn-init
loop-turn-init g c = rw c.new-sizes.ensures (sizes-begin c.args.field c.args.count c.args.total c.args.coder.now c.args.items.now)

pub returns-in_err-size-clause-walk : goal.returns-in_err-size-clause-walk
returns-in_err-size-clause-walk g c =
    let p = err_from_is_err_and c.from_residual.result c.from_residual.ensures.1 in
    rw (p.1, p.2) (sizes-stop _ _ _ _ _ _ c.loop-turn-test.true c.loop-turn.invariant (rw c.in_err-size.was at c.code_size.ensures.walk))

pub returns-in_default-clause-walk : goal.returns-in_default-clause-walk
returns-in_default-clause-walk g c = halted

pub loop-turn-preserved : goal.loop-turn-preserved
loop-turn-preserved g c =
    let walked = rw c.in_ok-size.was at c.code_size.ensures.walk in
    rw c.in-Ok.ensures.ok (sizes-more _ _ _ _ _ _ _ c.loop-turn-test.true c.loop-turn.invariant walked c.in_ok-size.ensures.fits.0)

pub returns-clause-walk : goal.returns-clause-walk
returns-clause-walk g c = sizes-end _ _ _ _ _ _ c.loop-turn-test.false c.loop-turn.invariant
