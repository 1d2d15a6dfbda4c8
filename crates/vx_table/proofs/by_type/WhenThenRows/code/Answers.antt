use Rattle.std.proofs.lemmas.Result.{err_from_is_err_and}
use Rattle.vx_table.proofs.ByType.{block_then, block_stop}
use Rattle.vx_table.proofs.by_type.WhenThenRows.code.Goals as goal

pub returns-in_err-code_when : goal.returns-in_err-code_when
returns-in_err-code_when g c =
    let walked = rw (c.in_err-code_when.was, c.get.ensures) at c.code_when.ensures in
    let p = err_from_is_err_and c.from_residual.result c.from_residual.ensures.1 in
    rw (p.1, p.2) (block_stop _ _ _ _ walked)

pub returns : goal.returns
returns g c = block_then _ _ _ _ _ (rw (c.in_ok-code_when.was, c.get.ensures) at c.code_when.ensures) c.code.ensures
