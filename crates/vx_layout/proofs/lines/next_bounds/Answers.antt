use Rattle.std.proofs.Common.{arith, refl}
use Rattle.vx_layout.proofs.Rising.{NextSoFar-more, AreNextBounds-from}
use Rattle.vx_layout.proofs.lines.next_bounds.Goals as goal

pub loop-i-preserved : goal.loop-i-preserved
loop-i-preserved c =
    let new = c.resize.new.self in
    let old = c.loop-i.next in
    let by_index = c.in_ok-resize.ensures.by_index in
    let len = c.in_ok-resize.ensures.len in
    NextSoFar-more _ old.items new.items c.loop-i.i c.item-bound.result c.len-i-end.ensures.rises (omega arith) c.item-bound.ensures.index (omega (arith, new.ok, len))
    (λ k d p q. by_index.0 k d p (omega (arith, old.ok))) (λ k d p q. by_index.1 k d refl (omega (arith, old.ok)) q) c.loop-i.invariant

pub returns-clause-next : goal.returns-clause-next
returns-clause-next c = AreNextBounds-from _ _ c.loop-i.i c.requires (omega arith) c.loop-i.invariant
