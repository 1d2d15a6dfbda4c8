use Rattle.std.proofs.Common.{◌∙◌, sym}
use Rattle.vx_push.proofs.Cutting.{cuts_kept}
use Rattle.vx_push.proofs.cutter.cut_picture.Goals as goal

pub returns-in-Ok-clause-cuts : goal.returns-in-Ok-clause-cuts
returns-in-Ok-clause-cuts c done stands =
    let wrote = rw c.new.ensures at (c.in-Ok.ensures.answer done stands) in
    rw (c.kept_kind.ensures, c.kind.ensures.value) (cuts_kept c.args.picture.now done c.picture.new.self c.picture.new.out.taken c.args.tid (c.requires ∙ sym c.picture.ensures.task.tid) c.args.pictures _ wrote)
