use Rattle.std.proofs.Common.{arith}
use Rattle.vx_merge.proofs.Assigning.{held_step}
use Rattle.vx_merge.proofs.ids.held_ids.Goals as goal

pub loop-k-preserved : goal.loop-k-preserved
loop-k-preserved c =
    held_step (λ b. b.now) c.args.slots.now c.args.search.temporal_id c.args.search.kind c.args.search.count c.args.bodies.now c.loop-k.k c.item.result c.loop-k.held.items
    c.push.new.self.items c.held_id.result (omega (arith, c.len-k-end.ensures)) c.item.ensures.index c.loop-k.invariant c.held_id.ensures c.in_ok-push.ensures.items
