use Rattle.std.proofs.Common.{◌≡◌, ◌*◌, ◌≤◌, take}
use Rattle.vx_fit.specs.Placing.{greatest_size}
use Rattle.vx_fit.specs.inner.Searches.{areas}
use Rattle.vx_fit.proofs.regions.areas.Given as goal

abbrev pub invariant-loop-region : goal.invariant-loop-region
invariant-loop-region l = record {
  so_far : l.sum ≡ areas (take l.region-index l.placed);
  limit : l.sum ≤ l.region-index * (greatest_size * greatest_size);
}
