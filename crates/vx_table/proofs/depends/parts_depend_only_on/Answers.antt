use Rattle.std.proofs.Common.{sym, ◌∙◌}
use Rattle.vx_table.specs.Parts.{sections_of}
use Rattle.vx_table.specs.inner.Names.{listed}
use Rattle.vx_table.proofs.Chains.{structure_depends_only_on}
use Rattle.vx_table.proofs.depends.parts_depend_only_on.Goals as goal

pub returns-clause-test : goal.returns-clause-test
unfolding listed
returns-clause-test c = c.parts_depend.ensures

pub returns-clause-depends : goal.returns-clause-depends
unfolding listed
returns-clause-depends c = λ it_does.
    structure_depends_only_on c.args.given.now c.args.shown.now (sections_of c.args.parts.now) (sym c.parts_depend.ensures ∙ it_does)
