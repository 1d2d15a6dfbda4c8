use Rattle.std.proofs.Common.{sym, ◌∙◌}
use Rattle.std.proofs.lemmas.Bool.{eqb-true}
use Rattle.vx_table.proofs.Steps.{no_next, no_behind}
use Rattle.vx_table.proofs.walk.one_behind.Goals as goal

pub returns-then-is_empty-clause-form : goal.returns-then-is_empty-clause-form
returns-then-is_empty-clause-form c = λ f. no_next _ _ f (eqb-true _ _ (sym c.is_empty.ensures ∙ c.if-is_empty.true))

pub returns-then-is_empty-2-clause-form : goal.returns-then-is_empty-2-clause-form
returns-then-is_empty-2-clause-form c = λ f. no_behind _ _ f (eqb-true _ _ (sym c.is_empty-2.ensures ∙ c.if-is_empty-2.true))
