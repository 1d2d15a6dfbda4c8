use Rattle.std.proofs.Common.{arith}
use Rattle.vx_frame.proofs.Edging.{greatest_step}
use Rattle.vx_frame.proofs.shapes.greatest.Goals as goal

pub loop-k-preserved : goal.loop-k-preserved
loop-k-preserved c = greatest_step c.args.round.now c.args.field c.loop-k.k c.index-round-k.result c.in_sps.result c.loop-k.greatest _ (omega arith) c.index-round-k.is c.in_sps.ensures c.max-greatest.ensures c.loop-k.invariant
