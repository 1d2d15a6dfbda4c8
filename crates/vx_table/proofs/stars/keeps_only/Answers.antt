use Rattle.std.proofs.Common.{sym, ◌∙◌}
use Rattle.vx_table.proofs.Starred.{table_keeps_only}
use Rattle.vx_table.proofs.stars.keeps_only.Goals as goal

pub returns-clause-keeps : goal.returns-clause-keeps
returns-clause-keeps c = λ it_does.
    table_keeps_only c.args.given.now c.args.shown.now c.args.table.now (sym c.stars_tell.ensures ∙ it_does)
