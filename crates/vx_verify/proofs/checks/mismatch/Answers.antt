use Rattle.vx_verify.proofs.Verdicts.{found_last}
use Rattle.vx_verify.proofs.checks.mismatch.Goals as goal

pub returns : goal.returns
returns c =
    found_last c.args.spots.now c.args.finished.now c.args.round.now c.requires.same c.in_default.ensures c.in_default-lowest_moved.ensures
    (rw c.in_default-uneven.is at c.in_ok-uneven.ensures) c.in_ok-found.found c.in_ok-found.ensures
