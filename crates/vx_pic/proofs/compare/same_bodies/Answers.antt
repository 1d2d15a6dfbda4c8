use Rattle.std.proofs.Common.{Bor, List, ℕ}
use Rattle.vx_pic.proofs.Comparing.{seen_more}
use Rattle.vx_pic.proofs.compare.same_bodies.Goals as goal

pub loop-i-preserved : goal.loop-i-preserved
loop-i-preserved c =
    seen_more (λ (body : Bor (List ℕ)). body.now) c.args.a.now c.args.b.now c.loop-i.i c.item.result c.item-in-loop-i.result c.item.ensures.value
    c.item-in-loop-i.ensures.value c.if-not-same_bytes.ensures.same c.loop-i.invariant
