use Rattle.std.proofs.Common.{arith}
use Rattle.vx_layout.proofs.Cutting.{CutSoFar-may, CutSoFar-more, cut-may}
use Rattle.vx_layout.proofs.region.cut.Goals as goal

pub push_inner-requires : goal.push_inner-requires
push_inner-requires c = λ above below. CutSoFar-may c.args.bounds.now c.args.from c.args.size c.loop-i.inner c.loop-i.i c.item.result c.item.ensures.index (omega arith) c.loop-i.invariant above

pub loop-i-preserved : goal.loop-i-preserved
loop-i-preserved c =
    CutSoFar-more c.args.bounds.now c.args.from c.args.size c.loop-i.inner _ c.loop-i.i c.item.result c.len-i-end.ensures.rises c.item.ensures.index (omega arith) c.in_ok-push_inner.ensures c.loop-i.invariant

pub push-requires-2 : goal.push-requires-2
push-requires-2 c = cut-may _ _ _ _ c.loop-i.i c.loop-i.invariant
