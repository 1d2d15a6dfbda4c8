use Rattle.std.proofs.Common.{rules, ◌≡◌, ◌+◌, ◌-◌, arith, w64}
use Rattle.std.proofs.lemmas.Int.{to_z-of_z}
use Rattle.std.proofs.lemmas.Result.{err_from_is_err_and}
use mir.Val.{SFits}
use Rattle.vx_table.specs.Scope.{natural}
use Rattle.vx_table.specs.Walks.{ended, coded, refused}
use Rattle.vx_calls.proofs.composite.code_share.Goals as goal

pub returns-in_err-value : goal.returns-in_err-value
returns-in_err-value g c =
    let p = err_from_is_err_and c.from_residual.result c.from_residual.ensures.1 in
    let s = rw (c.in_err-value.was, c.share_cell.ensures) at c.code.ensures.step in
    rw (p.1, p.2) (refused s)

pub returns : goal.returns
returns g c =
    let fits : SFits w64 c.in_ok-value.value = search rules in
    let s = rw (c.in_ok-value.was, c.share_cell.ensures) at c.code.ensures.step in
    let n = rw (to_z-of_z w64 c.in_ok-value.value fits) at c.natural.ensures in
    let same : c.saturating_sub.result ≡ c.args.left - (natural c.in_ok-value.value + 1) = omega (arith, n, c.saturating_sub-rest.ensures, c.saturating_sub.ensures) in
    rw same (coded s ended)
