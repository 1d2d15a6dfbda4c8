use Rattle.std.proofs.Common.{ℕ, List, length, Option, Some, None, refl, arith}
use Rattle.std.proofs.lemmas.Result.{err_from_is_err_and}
use Rattle.std.specs.Global.{Box}
use Rattle.std.specs.Prelude.{IfSome}
use Rattle.vx_pic.specs.Parts.{Parts}
use Rattle.vx_frame.specs.declared.corner.Corner.{Corner}
use Rattle.vx_frame.specs.declared.frame.Frame.{Frame}
use Rattle.vx_frame.specs.Rules.{rules_of}
use Rattle.vx_frame.specs.inner.Frames.{HasSetsOf, IsFrameOf, IsKeptFrame, IsUsedFor, ServesAs}
use Rattle.vx_frame.proofs.SameSets.{frame_used, kept_next}
use Rattle.vx_frame.proofs.Verdicts.{tries_other}
use Rattle.vx_merge.specs.inner.Counting.{AreUnitsOf}
use Rattle.vx_merge.proofs.Writing.{judged}
use Rattle.vx_merge.proofs.round.sound_units.Goals as goal

-- the frame that is kept, where it serves as the one that was made
kept_after : (corners : List Corner) (level : Option ℕ) (round : List Parts) (before : Frame) → IsUsedFor corners level round before → HasSetsOf round before
    → (kept : Option (Box Frame)) → IfSome kept (λ f. ServesAs round before f.value) → IfSome kept (λ f. IsKeptFrame corners level f.value)
kept_after corners level round before used sets (Some f) serves = kept_next corners level round before f.value used sets serves
kept_after corners level round before used sets None serves = tt

pub round_bodies-requires : goal.round_bodies-requires
round_bodies-requires c = let few = c.requires.corners.few in omega (arith, few, c.requires.same)

pub sound_frame-requires-clause-kept : goal.sound_frame-requires-clause-kept
sound_frame-requires-clause-kept c = rw c.take.ensures.value c.requires.kept

pub sound_frame-requires-clause-bodies : goal.sound_frame-requires-clause-bodies
sound_frame-requires-clause-bodies c = c.in_ok-bodies.ensures

pub returns-in_err-frame-clause-units : goal.returns-in_err-frame-clause-units
returns-in_err-frame-clause-units c history last =
    let corners = c.args.corners.now in
    let round = c.args.round.now in
    let p = err_from_is_err_and c.from_residual-in_err-frame.result c.from_residual-in_err-frame.ensures.1 in
    rw (p.1, p.2)
    (tries_other (length round) (rules_of corners round) (λ (f : Box Frame). IsFrameOf corners c.args.level round f.value) (AreUnitsOf corners c.args.level round history c.args.slots.now) _
    c.in_err-frame.ensures)

pub units_kept-requires-clause-bodies : goal.units_kept-requires-clause-bodies
units_kept-requires-clause-bodies c = c.in_ok-bodies.ensures

pub units_kept-requires-clause-used : goal.units_kept-requires-clause-used
units_kept-requires-clause-used c =
    let corners = c.args.corners.now in
    let round = c.args.round.now in
    let sound = c.in_ok-frame.ensures in
    let passes = judged corners round None None c.requires.same refl sound.0 in
    (corners, (c.args.level, frame_used corners c.args.level round c.in_ok-frame.frame.value c.requires.corners c.requires.same passes sound.1))

pub units_kept-requires-clause-slots : goal.units_kept-requires-clause-slots
units_kept-requires-clause-slots c = c.requires.slots

pub returns-in_err-units-clause-units : goal.returns-in_err-units-clause-units
returns-in_err-units-clause-units c history last =
    let p = err_from_is_err_and c.from_residual-in_err-units.result c.from_residual-in_err-units.ensures.1 in
    rw (p.1, p.2) tt

pub returns-clause-kept : goal.returns-clause-kept
returns-clause-kept c =
    let corners = c.args.corners.now in
    let round = c.args.round.now in
    let sound = c.in_ok-frame.ensures in
    let passes = judged corners round None None c.requires.same refl sound.0 in
    let used = frame_used corners c.args.level round c.in_ok-frame.frame.value c.requires.corners c.requires.same passes sound.1 in
    kept_after corners c.args.level round c.in_ok-frame.frame.value used sound.1.sets c.units_kept.new.kept c.in_ok-units.ensures.kept

pub returns-clause-units : goal.returns-clause-units
returns-clause-units c history last =
    let corners = c.args.corners.now in
    let round = c.args.round.now in
    let sound = c.in_ok-frame.ensures in
    let passes = judged corners round None None c.requires.same refl sound.0 in
    let used = frame_used corners c.args.level round c.in_ok-frame.frame.value c.requires.corners c.requires.same passes sound.1 in
    (sound.0, c.in_ok-units.ensures.units corners c.args.level history used last)
