use Rattle.std.proofs.Common.{arith}
use Rattle.vx_frame.proofs.Joining.{fills_at, slices_more}
use Rattle.vx_frame.proofs.geometry.all_slices.Goals as goal

pub push_slices-requires-clause-part : goal.push_slices-requires-clause-part
push_slices-requires-clause-part c = c.requires.parts c.loop-k.k _ (omega (arith, c.requires.same, c.loop-k-test.true))

pub push_slices-requires-clause-fills : goal.push_slices-requires-clause-fills
push_slices-requires-clause-fills c = fills_at c.args.corners.now c.args.pictures.now c.loop-k.k _ c.index-pictures-k.result c.requires.fill c.requires.same c.loop-k-test.true c.index-pictures-k.is

pub loop-k-preserved : goal.loop-k-preserved
loop-k-preserved c =
    slices_more c.args.corners.now c.args.pictures.now c.loop-k.k _ c.index-pictures-k.result _ _ c.requires.same c.loop-k-test.true c.index-pictures-k.is c.in_ok-push_slices.ensures c.loop-k.invariant
