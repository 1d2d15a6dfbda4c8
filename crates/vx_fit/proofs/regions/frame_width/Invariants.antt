use Rattle.std.proofs.Common.{◌≡◌, ◌*◌, ◌≤◌, take}
use Rattle.vx_fit.specs.Placing.{frame_width, greatest_size}
use Rattle.vx_fit.proofs.regions.frame_width.Given as goal

abbrev pub invariant-loop-region : goal.invariant-loop-region
invariant-loop-region l = record {
  so_far : l.width ≡ frame_width (take l.region-index l.placed);
  limit : l.width ≤ 2 * greatest_size;
}
