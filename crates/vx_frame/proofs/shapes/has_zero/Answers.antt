use Rattle.std.proofs.Common.{arith}
use Rattle.vx_frame.proofs.Edging.{zero_step}
use Rattle.vx_frame.proofs.shapes.has_zero.Goals as goal

pub loop-k-preserved : goal.loop-k-preserved
loop-k-preserved c = zero_step c.args.round.now c.args.field c.loop-k.k c.index-round-k.result c.in_sps.result c.loop-k.found _ (omega arith) c.index-round-k.is c.in_sps.ensures c.either-found.ensures c.loop-k.invariant
