use Rattle.std.proofs.Common.{subst, arith}
use Rattle.std.specs.List.{AllByRecursion}
use Rattle.std.proofs.lemmas.List.{take_all}
use Rattle.vx_merge.specs.inner.Sending.{HasEnds}
use Rattle.vx_merge.proofs.BodyEnds.{ends_more}
use Rattle.vx_merge.proofs.needed.all_bodies.Goals as goal

pub loop-k-preserved : goal.loop-k-preserved
loop-k-preserved c = ends_more c.args.round.now c.loop-k.k c.index-round-k.result (omega arith) c.index-round-k.is c.bodies_of.ensures c.loop-k.invariant

pub returns : goal.returns
returns c = subst (AllByRecursion HasEnds) (take_all c.loop-k.k c.args.round.now (omega arith)) c.loop-k.invariant
