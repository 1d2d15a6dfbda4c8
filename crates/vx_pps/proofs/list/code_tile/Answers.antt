use Rattle.std.proofs.lemmas.Result.{err_from_is_err_and}
use Rattle.vx_pps.specs.inner.Walked.{halted}
use Rattle.vx_pps.proofs.Turning.{tile-whole, tile-cut, tile-stop}
use Rattle.vx_pps.proofs.list.code_tile.Goals as goal

pub returns-in_err-explicit : goal.returns-in_err-explicit
returns-in_err-explicit g c =
    let p = err_from_is_err_and c.from_residual.result c.from_residual.ensures.1 in
    let walked = rw (c.in_err-explicit.was, c.len.ensures) at c.code_below.ensures.walk in
    rw (p.1, p.2) (tile-stop c.args.tile c.args.last c.args.slices.now walked)

pub returns-then-explicit-ne0 : goal.returns-then-explicit-ne0
returns-then-explicit-ne0 g c =
    let walked = rw (c.in_ok-explicit.was, c.len.ensures) at c.code_below.ensures.walk in
    tile-cut c.args.tile c.args.last c.in_ok-explicit.explicit c.args.slices.now c.if-explicit-ne0.true walked c.code_strips.ensures

pub returns-in-Ok : goal.returns-in-Ok
returns-in-Ok g c =
    let walked = rw (c.in_ok-explicit.was, c.len.ensures) at c.code_below.ensures.walk in
    rw c.in-Ok.ensures.ok (tile-whole c.args.tile c.args.last c.in_ok-explicit.explicit c.args.slices.now c.if-explicit-ne0.false walked)

pub returns-in-Err : goal.returns-in-Err
returns-in-Err g c = halted
