use Rattle.std.proofs.Common.{subst}
use Rattle.std.specs.Prelude.{IfErr}
use Rattle.vx_fit.specs.FrameLines.{IfLines, IsLinesFault}
use Rattle.vx_frame.proofs.Fitted.{crossed_found, lines_found}
use Rattle.vx_frame.proofs.regions.frame_lines.Goals as goal

pub returns-in-Ok : goal.returns-in-Ok
returns-in-Ok c = (lines_found _ _ c.args.corners.now c.args.parts.now c.lines_are_one.ensures.none c.in-Ok.ensures.lines, c.in-Ok.ensures.lines)

pub returns-in-Err-Lines : goal.returns-in-Err-Lines
returns-in-Err-Lines c =
    crossed_found c.args.corners.now c.args.parts.now c.in-Err-Lines.source c.lines_are_one.ensures.one
    (subst (λ e. IfLines e (IsLinesFault c.args.corners.now c.args.parts.now)) c.in-Err-Lines.field-0-is
    (subst (λ r. IfErr r (λ e. IfLines e (IsLinesFault c.args.corners.now c.args.parts.now))) c.in-Err-Lines.is c.fit_lines.ensures.fault))
