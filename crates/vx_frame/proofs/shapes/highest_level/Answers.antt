use Rattle.std.proofs.Common.{arith}
use Rattle.vx_fields.specs.declared.ptl.TheConstants.{general_level_idc}
use Rattle.vx_frame.proofs.Edging.{greatest_step}
use Rattle.vx_frame.proofs.shapes.highest_level.Goals as goal

pub loop-k-preserved : goal.loop-k-preserved
loop-k-preserved c = greatest_step c.args.round.now general_level_idc c.loop-k.k c.index-round-k.result c.own_level.result c.loop-k.highest _ (omega arith) c.index-round-k.is c.own_level.ensures c.max-highest.ensures c.loop-k.invariant
