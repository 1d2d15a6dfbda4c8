use Rattle.std.proofs.Common.{sym}
use Rattle.vx_table.proofs.Steps.{form_at_end, rows_behind_none}
use Rattle.vx_table.proofs.walk.first_row.Goals as goal

pub returns-in-Some-split_first-clause-form : goal.returns-in-Some-split_first-clause-form
returns-in-Some-split_first-clause-form c = λ s.
    let none = rw c.in-None.is at c.split_first.ensures.cases in
    rw (sym c.in-Some-split_first.ensures.cases.0) (rows_behind_none c.args.rows.now c.args.behind.now s none)

pub returns-in-None-split_first-clause-form : goal.returns-in-None-split_first-clause-form
returns-in-None-split_first-clause-form c = λ s.
    let none = rw c.in-None.is at c.split_first.ensures.cases in
    let none_behind = rw c.in-None-split_first.is at c.split_first-in-None.ensures.cases in
    form_at_end _ _ s none none_behind
