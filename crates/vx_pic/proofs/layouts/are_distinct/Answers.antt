use Rattle.std.proofs.Common.{sym, ◌∙◌}
use Rattle.std.proofs.lemmas.Bool.{OnTrue_from, OnFalse_from, eqb-true, eqb-false}
use Rattle.vx_pic.proofs.Distinct.{as_many, fewer}
use Rattle.vx_pic.proofs.layouts.are_distinct.Goals as goal

pub returns-clause-distinct : goal.returns-clause-distinct
returns-clause-distinct c =
    OnTrue_from _ _ (λ same. as_many c.args.ids.now c.in_ok-distinct.distinct (rw c.as_slice.ensures at c.in_ok-distinct.ensures)
    (sym c.len.ensures.len ∙ eqb-true c.len.result c.len-2.result same ∙ c.len-2.ensures))

pub returns-clause-doubled : goal.returns-clause-doubled
returns-clause-doubled c =
    OnFalse_from _ _ (λ other. fewer c.args.ids.now c.in_ok-distinct.distinct (rw c.as_slice.ensures at c.in_ok-distinct.ensures)
    (λ same. eqb-false c.len.result c.len-2.result other (c.len.ensures.len ∙ same ∙ sym c.len-2.ensures)))
