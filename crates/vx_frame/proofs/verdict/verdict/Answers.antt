use Rattle.std.proofs.Common.{length}
use Rattle.vx_frame.specs.Rules.{rules_of_pictures, rules_of_slices}
use Rattle.vx_frame.proofs.SameSets.{known_for, some_flags_known, some_pps_known}
use Rattle.vx_frame.proofs.Verdicts.{broken_all, passed_all}
use Rattle.vx_frame.proofs.verdict.verdict.Goals as goal

pub verdict_of_pictures-requires-clause-frame : goal.verdict_of_pictures-requires-clause-frame
verdict_of_pictures-requires-clause-frame c = known_for c.args.round.now c.args.frame.now (some_pps_known c.args.round.now) c.requires.frame

pub returns-in-Some : goal.returns-in-Some
returns-in-Some c =
    let round = c.args.round.now in
    broken_all (length round) (rules_of_pictures round) (rules_of_slices round) c.in-Some.refusal (rw c.in-Some.is at c.in_ok-of_pictures.ensures)

pub verdict_of_slices-requires-clause-frame : goal.verdict_of_slices-requires-clause-frame
verdict_of_slices-requires-clause-frame c = known_for c.args.round.now c.args.frame.now (some_flags_known c.args.round.now) c.requires.frame

pub returns : goal.returns
returns c =
    let round = c.args.round.now in
    passed_all (length round) (rules_of_pictures round) (rules_of_slices round) c.verdict_of_slices.result (rw c.in_default.is at c.in_ok-of_pictures.ensures) c.verdict_of_slices.ensures
