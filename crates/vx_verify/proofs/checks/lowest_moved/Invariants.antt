use Rattle.vx_verify.specs.Verified.{StandsAtSpot}
use Rattle.vx_verify.proofs.Searching.{BeforeIt}
use Rattle.vx_verify.proofs.checks.lowest_moved.Given as goal

abbrev pub invariant-loop-k : goal.invariant-loop-k
invariant-loop-k l = BeforeIt l.spots (StandsAtSpot l.finished) l.k
