use Rattle.vx_frame.proofs.SameSets.{known_alike}
use Rattle.vx_frame.proofs.frame.has_sets.Goals as goal

pub returns-clause-same : goal.returns-clause-same
returns-clause-same c =
    known_alike c.args.picture.now c.args.own.now c.is_of.result (rw (c.sps.ensures, c.pps.ensures) at c.is_of.ensures) c.sets_in_force.ensures.numbers
