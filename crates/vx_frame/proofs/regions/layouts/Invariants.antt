use Rattle.std.proofs.Common.{◌≡◌, take}
use Rattle.std.specs.Prelude.{All}
use Rattle.vx_write.specs.InForce.{AreInForce}
use Rattle.vx_frame.specs.Regions.{layouts_in}
use Rattle.vx_frame.proofs.regions.layouts.Given as goal

abbrev pub invariant-loop-k : goal.invariant-loop-k
invariant-loop-k l = (l.layouts.items ≡ take l.k (layouts_in l.round)) × All AreInForce (take l.k l.round)
