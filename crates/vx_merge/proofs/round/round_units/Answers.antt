use Rattle.std.proofs.Common.{◌++◌, None, refl}
use Rattle.std.proofs.lemmas.Result.{err_from_is_err_and}
use Rattle.vx_pic.specs.Resident.{history_of, kept_for}
use Rattle.vx_merge.specs.inner.Counting.{AreUnitsOf}
use Rattle.vx_merge.proofs.Writing.{counts_all, counts_none, judged, tried_none}
use Rattle.vx_merge.proofs.round.round_units.Goals as goal

pub sound_units-requires-clause-kept : goal.sound_units-requires-clause-kept
sound_units-requires-clause-kept c = c.requires.progress.frame

pub sound_units-requires-clause-slots : goal.sound_units-requires-clause-slots
sound_units-requires-clause-slots c = c.requires.progress.slots

pub returns-in_err-units-clause-answer : goal.returns-in_err-units-clause-answer
returns-in_err-units-clause-answer c done stands =
    let corners = c.args.corners.now in
    let round = c.args.round.now in
    let p = err_from_is_err_and c.from_residual.result c.from_residual.ensures.1 in
    rw (p.1, p.2)
    (tried_none corners c.args.level round done c.sound_units.new.slots c.args.progress.now.bytes (AreUnitsOf corners c.args.level round (history_of done) c.sound_units.new.slots) _ c.requires.same
    (c.in_err-units.ensures.units (history_of done) stands.slots))

pub returns-in-Ok-clause-progress : goal.returns-in-Ok-clause-progress
returns-in-Ok-clause-progress c =
    let history = c.requires.progress.slots in
    let units = (c.in_ok-units.ensures.units history.0 history.1).1 in
    record { frame = c.in_ok-units.ensures.kept; slots = (kept_for units.plan.kind.nal_type history.0 ++ units.plan.sent, units.last) }

pub returns-in-Ok-clause-answer : goal.returns-in-Ok-clause-answer
returns-in-Ok-clause-answer c done stands =
    let corners = c.args.corners.now in
    let round = c.args.round.now in
    let tried = c.in_ok-units.ensures.units (history_of done) stands.slots in
    counts_all corners c.args.level round done c.in_ok-units.units c.sound_units.new.slots c.args.progress.now.bytes c.requires.corners.some
    (judged corners round None None c.requires.same refl tried.0) tried.1 c.in-Ok.ensures.bytes stands.bytes c.in-Ok.total c.in-Ok.ensures.within
    c.in-Ok.ensures.total

pub returns-clause-answer : goal.returns-clause-answer
returns-clause-answer c done stands =
    let corners = c.args.corners.now in
    let round = c.args.round.now in
    let tried = c.in_ok-units.ensures.units (history_of done) stands.slots in
    counts_none corners c.args.level round done c.in_ok-units.units c.sound_units.new.slots c.args.progress.now.bytes c.requires.corners.some
    (judged corners round None None c.requires.same refl tried.0) tried.1 c.in-Err.ensures.bytes stands.bytes c.args.progress.now.bytes c.in-Err.refusal
    c.in-Err.ensures.broken
