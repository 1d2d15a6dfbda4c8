use Rattle.std.proofs.Common.{rules, w64}
use Rattle.std.proofs.lemmas.Result.{err_from_is_err_and}
use Rattle.std.proofs.lemmas.Int.{to_z-of_z}
use mir.Val.{SFits}
use Rattle.vx_table.specs.Walks.{ended, coded, refused}
use Rattle.vx_table.proofs.walk.code_cell.Goals as goal

pub returns-in_err-value : goal.returns-in_err-value
returns-in_err-value g c =
    let p = err_from_is_err_and c.from_residual.result c.from_residual.ensures.1 in
    let s = rw c.in_err-value.was at c.code.ensures.step in
    rw (p.1, p.2) (refused s)

pub returns : goal.returns
returns g c =
    let s = rw c.in_ok-value.was at c.code.ensures.step in
    let fits : SFits w64 c.in_ok-value.value = search rules in
    rw (c.set_field.ensures, to_z-of_z w64 c.in_ok-value.value fits) (coded s ended)
