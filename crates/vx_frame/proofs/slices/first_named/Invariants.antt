use Rattle.std.proofs.Common.{◌≡◌, [], take}
use Rattle.std.specs.Prelude.{flat_map}
use Rattle.vx_frame.specs.Collocated.{collocated_by}
use Rattle.vx_frame.proofs.slices.first_named.Given as goal

abbrev pub invariant-loop-i : goal.invariant-loop-i
invariant-loop-i l = flat_map (collocated_by l.picture) (take l.i l.picture.slices) ≡ []
