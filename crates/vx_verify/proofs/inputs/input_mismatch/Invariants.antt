use Rattle.vx_verify.specs.Verified.{HasInputs}
use Rattle.vx_verify.proofs.Searching.{BeforeIt}
use Rattle.vx_verify.proofs.inputs.input_mismatch.Given as goal

abbrev pub invariant-loop-k : goal.invariant-loop-k
invariant-loop-k l = BeforeIt l.round (HasInputs l.finished) l.k
