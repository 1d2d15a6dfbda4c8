use Rattle.std.proofs.Common.{◌≡◌, ◌*◌, ◌≤◌, take}
use Rattle.vx_fit.specs.Placing.{frame_height, greatest_size}
use Rattle.vx_fit.proofs.regions.frame_height.Given as goal

abbrev pub invariant-loop-region : goal.invariant-loop-region
invariant-loop-region l = record {
  so_far : l.height ≡ frame_height (take l.region-index l.placed);
  limit : l.height ≤ 2 * greatest_size;
}
