use Rattle.std.proofs.lemmas.Result.{err_from_is_err_and}
use Rattle.vx_table.specs.Forms.{done}
use Rattle.vx_table.specs.Walks.{ended}
use Rattle.vx_table.proofs.Steps.{then, stop}
use Rattle.vx_sh.specs.Whole.{located, subpic_id_form}
use Rattle.vx_sh.proofs.front.code_id.Goals as goal

pub returns-in_err-code : goal.returns-in_err-code
unfolding subpic_id_form
returns-in_err-code g c =
    let walked = rw c.in_err-code.was at c.code.ensures in
    let p = err_from_is_err_and c.from_residual.result c.from_residual.ensures.1 in
    rw (p.1, p.2) (stop (λ t. done (located c.args.n.now.ids.now c.args.n.now.layout.now t)) walked)

pub returns : goal.returns
unfolding subpic_id_form
returns g c =
    let walked = rw c.in_ok-code.was at c.code.ensures in
    rw c.locate.ensures (then (λ t. done (located c.args.n.now.ids.now c.args.n.now.layout.now t)) walked ended)
