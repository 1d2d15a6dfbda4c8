use Rattle.std.proofs.Common.{◌∙◌, sym}
use Rattle.std.proofs.lemmas.Bool.{ne_eqb}
use Rattle.vx_table.specs.Scope.{value}
use Rattle.vx_table.specs.Forms.{present}
use Rattle.vx_table.specs.Walks.{ended}
use Rattle.vx_sh.proofs.walk.code_weights_here.Goals as goal

pub returns-then-latest-eq0 : goal.returns-then-latest-eq0
unfolding present value
returns-then-latest-eq0 g c = rw (sym c.latest.ensures ∙ c.if-latest-eq0.true) ended

pub returns : goal.returns
unfolding present value
returns g c = rw (ne_eqb _ 0 (λ none. c.if-latest-eq0.false (c.latest.ensures ∙ none))) c.code_weights.ensures
