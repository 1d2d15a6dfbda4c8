use Rattle.vx_verify.specs.Verified.{HasAsMany}
use Rattle.vx_verify.proofs.Searching.{BeforeIt}
use Rattle.vx_verify.proofs.checks.lowest_uneven.Given as goal

abbrev pub invariant-loop-k : goal.invariant-loop-k
invariant-loop-k l = BeforeIt l.round (HasAsMany l.finished) l.k
