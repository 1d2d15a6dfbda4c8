use Rattle.std.proofs.Common.{◌≡◌, Some, take}
use Rattle.std.specs.List.{AllByRecursion}
use Rattle.std.specs.Prelude.{flat_map}
use Rattle.vx_frame.specs.Collocated.{collocated_by}
use Rattle.vx_frame.proofs.slices.names_other.Given as goal

abbrev pub invariant-loop-i : goal.invariant-loop-i
invariant-loop-i l = AllByRecursion (λ x. l.first ≡ Some x) (flat_map (collocated_by l.picture) (take l.i l.picture.slices))
