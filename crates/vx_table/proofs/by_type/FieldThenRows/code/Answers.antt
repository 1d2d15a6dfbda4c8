use Rattle.std.proofs.lemmas.Result.{err_from_is_err_and}
use Rattle.vx_table.proofs.ByType.{field_then, field_stop}
use Rattle.vx_table.proofs.by_type.FieldThenRows.code.Goals as goal

pub returns-in_err-code_field : goal.returns-in_err-code_field
returns-in_err-code_field g c =
    let walked = rw (c.in_err-code_field.was, c.get.ensures) at c.code_field.ensures in
    let p = err_from_is_err_and c.from_residual.result c.from_residual.ensures.1 in
    rw (p.1, p.2) (field_stop _ _ _ walked)

pub returns : goal.returns
returns g c = field_then _ _ _ _ (rw (c.in_ok-code_field.was, c.get.ensures) at c.code_field.ensures) c.code.ensures
