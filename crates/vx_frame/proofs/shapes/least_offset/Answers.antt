use Rattle.std.proofs.Common.{arith}
use Rattle.vx_frame.specs.inner.Edges.{touches}
use Rattle.vx_frame.proofs.Edging.{offset_all, offset_step}
use Rattle.vx_frame.proofs.shapes.least_offset.Goals as goal

pub loop-k-preserved : goal.loop-k-preserved
loop-k-preserved c =
    offset_step (touches c.args.edge) c.args.field c.args.placed.now c.args.round.now c.loop-k.k _ c.index-round-k.result c.touches-is_there.result c.in_sps.result c.loop-k.least _
    c.requires.same (omega arith) c.index-round-k.is c.touches-is_there.ensures c.in_sps.ensures c.with_offset-least.ensures c.loop-k.invariant

pub returns : goal.returns
returns c = offset_all (touches c.args.edge) c.args.field c.args.placed.now c.args.round.now c.loop-k.k c.loop-k.least _ c.requires.same (omega arith) c.unwrap_or.ensures c.loop-k.invariant
