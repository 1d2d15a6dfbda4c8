use Rattle.std.proofs.Common.{◌≡◌, ◌*◌, ◌≤◌, length, take}
use Rattle.std.specs.List.{sum_by}
use Rattle.std.specs.Prelude.{All}
use Rattle.vx_frame.specs.inner.Geometry.{IsWhole}
use Rattle.vx_frame.proofs.regions.slice_count.Given as goal

abbrev pub invariant-loop-k : goal.invariant-loop-k
invariant-loop-k l = (l.count ≡ sum_by (λ q. length q.slices) (take l.k l.round)) × (l.count ≤ l.k * 1000) × All IsWhole (take l.k l.round)
