use Rattle.std.proofs.lemmas.Result.{err_from_is_err_and}
use Rattle.vx_table.specs.Forms.{done}
use Rattle.vx_table.specs.Walks.{ended}
use Rattle.vx_table.proofs.Steps.{then, stop}
use Rattle.vx_sh.specs.Slice.{with_entry_points, address_form}
use Rattle.vx_sh.proofs.walk.code_address.Goals as goal

pub returns-in_err-code : goal.returns-in_err-code
unfolding address_form
returns-in_err-code g c =
    let walked = rw c.in_err-code.was at c.code.ensures in
    let p = err_from_is_err_and c.from_residual.result c.from_residual.ensures.1 in
    rw (p.1, p.2) (stop (λ t. done (with_entry_points (g.P.EntryPoints.points c.args.points.now) t)) walked)

pub returns : goal.returns
unfolding address_form
returns g c =
    let walked = rw c.in_ok-code.was at c.code.ensures in
    rw c.count_entry_points.ensures (then (λ t. done (with_entry_points (g.P.EntryPoints.points c.args.points.now) t)) walked ended)
