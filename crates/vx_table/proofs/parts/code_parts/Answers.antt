use Rattle.std.proofs.lemmas.Result.{err_from_is_err_and}
use Rattle.vx_table.proofs.Steps.{leads-part, stop-part, leads-no_part}
use Rattle.vx_table.proofs.parts.code_parts.Goals as goal

pub loop-part-preserved : goal.loop-part-preserved
loop-part-preserved g c =
    let walked = rw c.in_ok-code_block.was at c.code_block.ensures in
    leads-part _ _ _ _ _ c.loop-part-test.true c.loop-part.invariant walked

pub returns-in_err-code_block : goal.returns-in_err-code_block
returns-in_err-code_block g c =
    let walked = rw c.in_err-code_block.was at c.code_block.ensures in
    let p = err_from_is_err_and c.from_residual.result c.from_residual.ensures.1 in
    rw (p.1, p.2) (stop-part _ _ _ _ c.loop-part-test.true c.loop-part.invariant walked)

pub returns : goal.returns
returns g c = leads-no_part _ _ _ c.loop-part-test.false c.loop-part.invariant
