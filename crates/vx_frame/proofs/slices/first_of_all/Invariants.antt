use Rattle.std.proofs.Common.{◌≡◌, [], take}
use Rattle.std.specs.Prelude.{flat_map}
use Rattle.vx_frame.specs.Collocated.{collocated}
use Rattle.vx_frame.proofs.slices.first_of_all.Given as goal

abbrev pub invariant-loop-k : goal.invariant-loop-k
invariant-loop-k l = flat_map collocated (take l.k l.round) ≡ []
