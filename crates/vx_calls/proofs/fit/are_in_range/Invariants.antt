use Rattle.std.specs.List.{AllWithin}
use Rattle.vx_fit.specs.Placing.{IsInRange}
use Rattle.vx_calls.proofs.fit.are_in_range.Given as goal

abbrev pub invariant-loop-region : goal.invariant-loop-region
invariant-loop-region l = AllWithin IsInRange l.placed 0 l.region-index
