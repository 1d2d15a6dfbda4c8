use Rattle.std.proofs.Common.{◌≡◌, take}
use Rattle.vx_frame.specs.Shapes.{greatest, numbers_in_round}
use Rattle.vx_frame.proofs.shapes.greatest.Given as goal

abbrev pub invariant-loop-k : goal.invariant-loop-k
invariant-loop-k l = l.greatest ≡ greatest (numbers_in_round (take l.k l.round) l.field)
