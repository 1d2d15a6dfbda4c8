use Rattle.std.proofs.Common.{◌++◌, length, None, arith}
use Rattle.std.proofs.lemmas.Result.{err_from_is_err_and}
use Rattle.std.specs.Global.{Box}
use Rattle.vx_frame.specs.declared.frame.Frame.{Frame}
use Rattle.vx_frame.specs.Rules.{rules_of_pictures, rules_of_sets, rules_of_slices}
use Rattle.vx_frame.specs.inner.Frames.{IsFrameOf, IsRoundFrame}
use Rattle.vx_frame.proofs.SameSets.{past_or_new, some_kept}
use Rattle.vx_frame.proofs.Verdicts.{passed_all, tries_behind, tries_front}
use Rattle.vx_frame.proofs.sound.sound_frame.Goals as goal

pub round_frame-requires-clause-kept : goal.round_frame-requires-clause-kept
round_frame-requires-clause-kept c = some_kept c.args.corners.now c.args.level c.args.kept c.requires.kept

pub returns-in_err-begun : goal.returns-in_err-begun
returns-in_err-begun c =
    let corners = c.args.corners.now in
    let round = c.args.round.now in
    let p = err_from_is_err_and c.from_residual.result c.from_residual.ensures.1 in
    rw (p.1, p.2)
    (tries_front (length round) (rules_of_sets corners round) (rules_of_pictures round ++ rules_of_slices round) (IsRoundFrame corners c.args.level round)
    (λ (f : Box Frame). IsFrameOf corners c.args.level round f.value) _ (c.in_err-begun.ensures c.args.level c.requires.kept))

pub check_pictures-requires-clause-count : goal.check_pictures-requires-clause-count
check_pictures-requires-clause-count c =
    let some = c.requires.corners.some in
    let few = c.requires.corners.few in
    (omega (arith, some, c.requires.same), omega (arith, few, c.requires.same))

pub check_pictures-requires-clause-bodies : goal.check_pictures-requires-clause-bodies
check_pictures-requires-clause-bodies c = c.requires.bodies

pub check_pictures-requires-clause-frame : goal.check_pictures-requires-clause-frame
check_pictures-requires-clause-frame c =
    past_or_new c.args.corners.now c.args.level c.args.round.now c.in_ok-begun.begun (c.in_ok-begun.ensures c.args.level c.requires.kept).1

pub returns-in_err-check_pictures : goal.returns-in_err-check_pictures
returns-in_err-check_pictures c =
    let corners = c.args.corners.now in
    let round = c.args.round.now in
    let p = err_from_is_err_and c.from_residual-in_err-check_pictures.result c.from_residual-in_err-check_pictures.ensures.1 in
    rw (p.1, p.2)
    (tries_behind {A = Unit {0}} (length round) (rules_of_sets corners round) (rules_of_pictures round ++ rules_of_slices round) (λ x. Unit {0})
    (λ (f : Box Frame). IsFrameOf corners c.args.level round f.value) _ (c.in_ok-begun.ensures c.args.level c.requires.kept).0 c.in_err-check_pictures.ensures)

pub whole_frame-requires : goal.whole_frame-requires
whole_frame-requires c = (c.args.corners.now, (c.in_ok-begun.ensures c.args.level c.requires.kept).1)

pub returns : goal.returns
returns c =
    let corners = c.args.corners.now in
    let round = c.args.round.now in
    let tried = c.in_ok-begun.ensures c.args.level c.requires.kept in (
      passed_all (length round) (rules_of_sets corners round) (rules_of_pictures round ++ rules_of_slices round) None tried.0 c.in_ok-check_pictures.ensures.0,
      c.in_ok-frame.ensures corners tried.1,
    )
