use Rattle.std.proofs.Common.{sym, ◌∙◌}
use Rattle.vx_table.specs.Parts.{sections_of}
use Rattle.vx_table.proofs.Starred.{structure_keeps_only}
use Rattle.vx_table.proofs.stars.parts_keep_only.Goals as goal

pub returns-clause-keeps : goal.returns-clause-keeps
returns-clause-keeps c = λ it_does.
    structure_keeps_only c.args.given.now c.args.shown.now (sections_of c.args.parts.now)
    (sym c.parts_stars_tell.ensures ∙ it_does)
