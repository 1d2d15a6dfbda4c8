use Rattle.std.proofs.Common.{◌≡◌, take}
use Rattle.vx_pic.specs.Inputs.{inputs_in}
use Rattle.vx_verify.proofs.inputs.differing_slice.Given as goal

abbrev pub invariant-loop-i : goal.invariant-loop-i
invariant-loop-i l = take l.i (inputs_in l.finished l.k) ≡ take l.i (inputs_in l.source 0)
