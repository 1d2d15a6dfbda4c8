use Rattle.std.proofs.Common.{◌≡◌, ◌+◌, ◌-◌, min, arith, length, rules}
use Rattle.std.proofs.lemmas.Result.{err_from_is_err_and}
use Rattle.vx_annexb.proofs.Buffer.{put_items, received, stay_items}
use Rattle.vx_annexb.proofs.queue.ByteQueue.read_from.Goals as goal

pub returns-in_err-count-clause-answer : goal.returns-in_err-count-clause-answer
returns-in_err-count-clause-answer g c =
    let p = err_from_is_err_and c.from_residual.result c.from_residual.ensures.1 in
    let e = c.in_err-count.ensures in
    let room = rw (← c.self.view_is) at c.requires.room in
    rw (p.1, ← c.self.view_is) (e.1.0, stay_items c.self.inside.buffer.items c.deref_mut.result.now c.read.new.into c.self.inside.first c.self.inside.last c.self.inside.buffer.len (c.self.inside.last + c.args.most - c.self.inside.last) c.deref_mut.ensures.value c.deref_mut.ensures.len (omega (arith, c.self.invariant)) (omega (arith, c.self.invariant, room)) (search rules))

pub returns-clause-answer : goal.returns-clause-answer
returns-clause-answer g c =
    let e = c.in_ok-count.ensures in
    let room = rw (← c.self.view_is) at c.requires.room in
    let k = c.self.inside.last + c.args.most - c.self.inside.last in
    let len : length c.read.new.into ≡ k = search rules in
    rw (← c.self.view_is) (received _ _ c.read.new.into _ _ c.args.limit c.in_ok-count.count e.0.1 e.1.0.0 (λ none. e.1.0.1 none (omega (arith, c.requires.some)))
    (put_items c.self.inside.buffer.items c.deref_mut.result.now c.read.new.into c.self.inside.first c.self.inside.last c.self.inside.buffer.len k c.deref_mut.ensures.value c.deref_mut.ensures.len (omega (arith, c.self.invariant)) (omega (arith, c.self.invariant, room)) len (min c.in_ok-count.count c.args.limit) _ (omega arith) (omega (arith, c.min.ensures))))
