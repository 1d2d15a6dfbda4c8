use Rattle.std.proofs.Common.{arith}
use Rattle.vx_frame.proofs.Copying.{rises_step}
use Rattle.vx_frame.proofs.frame_sets.copied_bounds.Goals as goal

pub push-requires : goal.push-requires
push-requires c = rises_step c.args.bounds.now c.loop-i.copy c.loop-i.i c.item.result c.len-i-end.ensures.rises c.loop-i.invariant (omega (arith, c.len-i-end.ensures.value)) c.item.ensures.index
