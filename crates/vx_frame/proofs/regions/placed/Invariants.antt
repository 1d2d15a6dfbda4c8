use Rattle.std.proofs.Common.{◌≡◌, take}
use Rattle.std.specs.Prelude.{All}
use Rattle.vx_fit.specs.Placing.{IsInRange}
use Rattle.vx_frame.specs.Regions.{placed_in}
use Rattle.vx_frame.proofs.regions.placed.Given as goal

abbrev pub invariant-loop-k : goal.invariant-loop-k
invariant-loop-k l = (l.placed.items ≡ take l.k (placed_in l.corners l.round)) × All IsInRange l.placed.items
