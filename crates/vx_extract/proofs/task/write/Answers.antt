use Rattle.std.proofs.Common.{◌≡◌, true, None, sym, ◌∙◌}
use Rattle.std.proofs.lemmas.Result.{err_from_is_err_and}
use Rattle.vx_extract.specs.Rules.{is_kept, refusal_of}
use Rattle.vx_extract.proofs.Extracted.{writes_all, writes_front}
use Rattle.vx_extract.proofs.task.write.Goals as goal

pub returns-in_err-write_picture-clause-answer : goal.returns-in_err-write_picture-clause-answer
returns-in_err-write_picture-clause-answer g c done last =
    let p = err_from_is_err_and c.from_residual-in_err-write_picture.result c.from_residual-in_err-write_picture.ensures.1 in
    let sound : None ≡ refusal_of c.args.task.target c.args.task.tid c.args.picture.now = sym c.in_default.is ∙ c.refusal_of.ensures in
    let kept : true ≡ is_kept c.args.task.tid c.args.picture.now = cc in
    rw (p.1, p.2)
    (writes_front c.args.task.target c.args.task.level c.args.task.tid c.args.picture.now done _ _ c.make.new.slots _ _ _ _ _ sound kept
    (c.in_ok-made.ensures.made done last) c.in_err-write_picture.ensures)

pub returns-clause-answer : goal.returns-clause-answer
returns-clause-answer g c done last =
    let sound : None ≡ refusal_of c.args.task.target c.args.task.tid c.args.picture.now = sym c.in_default.is ∙ c.refusal_of.ensures in
    let kept : true ≡ is_kept c.args.task.tid c.args.picture.now = cc in
    writes_all c.args.task.target c.args.task.level c.args.task.tid c.args.picture.now done _ _ c.make.new.slots _ _ _ _ sound kept
    (c.in_ok-made.ensures.made done last) c.in_ok-write_picture.ensures
