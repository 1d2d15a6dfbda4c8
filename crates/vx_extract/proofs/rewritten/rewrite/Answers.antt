use Rattle.std.proofs.Common.{sym, ◌∙◌}
use Rattle.vx_extract.proofs.Rewriting.{kept_of}
use Rattle.vx_extract.proofs.rewritten.rewrite.Goals as goal

pub returns-in-Some : goal.returns-in-Some
returns-in-Some c =
    let kept = rw c.in-Some.is at c.requires.kept in
    kept_of c.args.target c.args.level c.args.picture.now c.in-Some.kept kept (sym c.is_of.ensures ∙ c.if-is_of.true) c.sets_tell.ensures.layout c.sets_tell.ensures.ids
