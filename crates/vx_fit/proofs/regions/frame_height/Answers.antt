use Rattle.std.proofs.Common.{◌+◌, arith}
use Rattle.vx_fit.specs.FitFaults.{nowhere}
use Rattle.vx_fit.proofs.Sizes.{greatest_more}
use Rattle.vx_fit.proofs.regions.frame_height.Goals as goal

pub loop-region-preserved : goal.loop-region-preserved
loop-region-preserved c =
    let range = c.requires c.loop-region.region-index nowhere c.loop-region-test.true in
    record {
      so_far = omega (arith, greatest_more (λ p. p.y + p.h) c.args.placed.now c.loop-region.region-index nowhere c.loop-region-test.true, c.loop-region.invariant.so_far);
      limit = omega (arith, range, c.loop-region.invariant.limit);
    }
