use Rattle.std.proofs.Common.{◌∙◌, sym}
use Rattle.std.proofs.lemmas.Bool.{ne_eqb}
use Rattle.std.proofs.lemmas.Result.{err_from_is_err_and}
use Rattle.vx_table.specs.Scope.{value}
use Rattle.vx_table.specs.Forms.{done, present}
use Rattle.vx_table.specs.Walks.{ended}
use Rattle.vx_table.proofs.Steps.{then, stop}
use Rattle.vx_sh.proofs.front.code_inside.Goals as goal

pub returns-then-latest-eq0 : goal.returns-then-latest-eq0
unfolding present value
returns-then-latest-eq0 g c = rw (sym c.latest.ensures ∙ c.if-latest-eq0.true) ended

pub returns-in_err-code_header : goal.returns-in_err-code_header
unfolding present value
returns-in_err-code_header g c =
    let p = err_from_is_err_and c.from_residual.result c.from_residual.ensures.1 in
    let walked = rw c.in_err-code_header.was at c.code_header.ensures in
    rw (p.1, p.2, ne_eqb _ 0 (λ none. c.if-latest-eq0.false (c.latest.ensures ∙ none))) (stop (λ t. done c.args.scope.now) walked)

pub returns : goal.returns
unfolding present value
returns g c =
    let walked = rw c.in_ok-code_header.was at c.code_header.ensures in
    rw (ne_eqb _ 0 (λ none. c.if-latest-eq0.false (c.latest.ensures ∙ none))) (then (λ t. done c.args.scope.now) walked ended)
