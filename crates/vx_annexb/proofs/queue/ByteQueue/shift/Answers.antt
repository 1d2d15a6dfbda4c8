use Rattle.std.proofs.Common.{◌≡◌, ◌≤◌, ◌+◌, ◌∙◌, arith, length, rules}
use Rattle.std.proofs.lemmas.List.Edits.{length-between}
use Rattle.vx_annexb.proofs.Buffer.{pass_items, lengthen_items, moved_items, length_begins}
use Rattle.vx_annexb.proofs.queue.ByteQueue.shift.Goals as goal

pub returns-then-first-held-clause-items : goal.returns-then-first-held-clause-items
returns-then-first-held-clause-items c =
    rw (← c.self.view_is) (
    lengthen_items c.self.inside.buffer.items _ _ (c.self.inside.first + c.args.k) c.self.inside.last (search rules) (omega (arith, c.self.invariant)) c.lengthen.ensures.begins
    ∙ pass_items c.self.inside.buffer.items c.self.inside.first c.self.inside.last c.args.k
    )

pub returns-clause-items : goal.returns-clause-items
returns-clause-items c =
    let len : length c.self.inside.buffer.items ≡ c.self.inside.buffer.len = search rules in
    let some = rw (← c.self.view_is) at c.requires in
    let order : c.self.inside.first + c.args.k ≤ c.self.inside.last = omega (arith, c.self.invariant, length-between c.self.inside.buffer.items c.self.inside.first c.self.inside.last (omega (arith, c.self.invariant)), some) in
    rw (← c.self.view_is, c.copy_within.ensures.items) (
    moved_items c.lengthen-2.new.buffer.items (c.self.inside.first + c.args.k) c.self.inside.last order (omega (arith, c.self.invariant, len, length_begins c.self.inside.buffer.items c.lengthen-2.new.buffer.items c.self.inside.buffer.len c.lengthen-2.ensures.begins))
    ∙ lengthen_items c.self.inside.buffer.items c.lengthen-2.new.buffer.items c.self.inside.buffer.len (c.self.inside.first + c.args.k) c.self.inside.last len (omega (arith, c.self.invariant)) c.lengthen-2.ensures.begins
    ∙ pass_items c.self.inside.buffer.items c.self.inside.first c.self.inside.last c.args.k
    )
