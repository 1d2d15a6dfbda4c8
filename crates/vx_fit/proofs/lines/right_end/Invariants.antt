use Rattle.std.proofs.Common.{◌+◌, ◌≤◌}
use Rattle.std.specs.List.{AllWithin}
use Rattle.vx_fit.specs.Placing.{greatest_size}
use Rattle.vx_fit.proofs.lines.right_end.Given as goal

abbrev pub invariant-loop-region : goal.invariant-loop-region
invariant-loop-region l = record {
  reach : AllWithin (λ s. s.x + s.w ≤ l.end) l.corners 0 l.region-index;
  limit : l.end ≤ greatest_size;
}
