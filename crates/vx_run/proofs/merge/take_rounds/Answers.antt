use Rattle.std.proofs.Common.{sym, subst}
use Rattle.std.proofs.lemmas.Result.{err_from_is_err_and}
use Rattle.vx_frame.specs.Corners.{AreCorners}
use Rattle.vx_run.proofs.Working.{work_unmade}
use Rattle.vx_run.proofs.merge.take_rounds.Goals as goal

-- there was no memory to begin
pub returns-in_err-merger-clause-takes : goal.returns-in_err-merger-clause-takes
returns-in_err-merger-clause-takes g c R of =
    let p = err_from_is_err_and c.from_residual.result c.from_residual.ensures.1 in
    rw (p.1, p.2) (work_unmade _ _ _ _ R c.args.sources.now.items c.args.out.now c.args.corners.now c.args.level c.args.work)

pub take_by-requires-clause-corners : goal.take_by-requires-clause-corners
take_by-requires-clause-corners g c = subst AreCorners (sym c.in_ok-merger.ensures.task.0) c.requires.corners

pub returns-clause-takes : goal.returns-clause-takes
returns-clause-takes g c R of = rw (c.in_ok-merger.ensures.task.0, c.in_ok-merger.ensures.task.1) at c.take_by.ensures.takes R of
