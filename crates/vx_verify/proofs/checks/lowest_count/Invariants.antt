use Rattle.vx_verify.specs.Verified.{IsAlone}
use Rattle.vx_verify.proofs.Searching.{BeforeIt}
use Rattle.vx_verify.proofs.checks.lowest_count.Given as goal

abbrev pub invariant-loop-k : goal.invariant-loop-k
invariant-loop-k l = BeforeIt l.round IsAlone l.k
