use Rattle.std.proofs.Common.{map}
use Rattle.vx_pic.proofs.Bodies.{luma_more}
use Rattle.vx_pic.proofs.in_force.luma_bodies.Goals as goal

pub loop-i-preserved : goal.loop-i-preserved
loop-i-preserved c =
    luma_more c.args.picture.now c.args.items.now c.loop-i.i c.item.result (map (λ body. body.now) c.loop-i.bodies)
    (map (λ body. body.now) c.push_luma.new.bodies) c.item.ensures.value c.loop-i.invariant c.in_ok-push_luma.ensures
