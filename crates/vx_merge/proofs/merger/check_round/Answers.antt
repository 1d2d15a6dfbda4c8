use Rattle.vx_merge.specs.inner.Progress.{merging_of}
use Rattle.vx_merge.proofs.Writing.{checks_counted}
use Rattle.vx_merge.proofs.merger.check_round.Goals as goal

pub round_units-requires-clause-corners : goal.round_units-requires-clause-corners
round_units-requires-clause-corners c = c.requires.corners

pub round_units-requires-clause-same : goal.round_units-requires-clause-same
round_units-requires-clause-same c = c.requires.same

pub round_units-requires-clause-progress : goal.round_units-requires-clause-progress
round_units-requires-clause-progress c = c.requires.progress

pub returns-in-Ok-clause-answer : goal.returns-in-Ok-clause-answer
returns-in-Ok-clause-answer c done stands =
    checks_counted c.args.round.now done (merging_of c.args.corners.now c.args.level c.round_units.new.progress) c.in-Ok._units (c.in-Ok.ensures.answer done stands)

pub returns-in-Err-clause-answer : goal.returns-in-Err-clause-answer
returns-in-Err-clause-answer c done stands = c.in-Err.ensures.answer done stands
