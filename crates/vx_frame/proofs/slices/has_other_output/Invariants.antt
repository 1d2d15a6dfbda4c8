use Rattle.std.proofs.Common.{◌≡◌, Some, take}
use Rattle.std.specs.List.{AllByRecursion}
use Rattle.vx_frame.specs.Rules.{outputs_of}
use Rattle.vx_frame.proofs.slices.has_other_output.Given as goal

abbrev pub invariant-loop-i : goal.invariant-loop-i
invariant-loop-i l = AllByRecursion (λ x. Some l.first ≡ Some x) (take l.i (outputs_of l.picture))
