use Rattle.std.proofs.Common.{◌∙◌, sym}
use Rattle.std.proofs.Math.Bool.{and-true}
use Rattle.vx_table.specs.inner.Names.{listed}
use Rattle.vx_table.proofs.Dependence.{table_depends_only_on}
use Rattle.vx_table.proofs.depends.depends_only_on.Goals as goal

pub returns-clause-test : goal.returns-clause-test
unfolding listed
returns-clause-test c = c.rows_depend.ensures ∙ and-true _

pub returns-clause-depends : goal.returns-clause-depends
unfolding listed
returns-clause-depends c = λ it_does.
    table_depends_only_on c.args.given.now c.args.shown.now c.args.table.now (sym (c.rows_depend.ensures ∙ and-true _) ∙ it_does)
