use Rattle.std.proofs.Common.{length}
use Rattle.std.proofs.lemmas.Result.{err_from_is_err_and}
use Rattle.vx_frame.specs.Rules.{rules_of_sets}
use Rattle.vx_frame.specs.inner.Frames.{IsRoundFrame}
use Rattle.vx_frame.specs.inner.Geometry.{IsRoundGeometry}
use Rattle.vx_frame.proofs.Verdicts.{tries_other}
use Rattle.vx_frame.proofs.frame.new_frame.Goals as goal

pub returns-in_err-geometry : goal.returns-in_err-geometry
returns-in_err-geometry c level =
    let round = c.args.round.now in
    let corners = c.args.corners.now in
    let p = err_from_is_err_and c.from_residual.result c.from_residual.ensures.1 in
    rw (p.1, p.2) (tries_other (length round) (rules_of_sets corners round) (IsRoundGeometry corners round) (IsRoundFrame corners level round) _ c.in_err-geometry.ensures)

pub returns : goal.returns
returns c level = c.in_ok-geometry.ensures
