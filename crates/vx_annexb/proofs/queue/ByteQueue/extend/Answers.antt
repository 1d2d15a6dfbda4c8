use Rattle.std.proofs.Common.{◌∙◌, ◌++◌, ◌+◌, ◌-◌, ap, arith, refl, length, take, rules, slice_range}
use Rattle.std.proofs.Math.Seq.{take-length}
use Rattle.vx_annexb.proofs.Buffer.{put_items}
use Rattle.vx_annexb.proofs.queue.ByteQueue.extend.Goals as goal

pub returns : goal.returns
returns c =
    let room = rw (← c.self.view_is) at c.requires in
    let put = put_items c.self.inside.buffer.items c.deref_mut.result.now c.copy_from_slice.new.self c.self.inside.first c.self.inside.last c.self.inside.buffer.len (c.self.inside.last + length c.args.piece.now - c.self.inside.last) c.deref_mut.ensures.value c.deref_mut.ensures.len
    (omega (arith, c.self.invariant)) (omega (arith, c.self.invariant, room)) (search rules) (length c.args.piece.now) _ (omega arith) refl in
    rw (← c.self.view_is) (put ∙ ap (λ xs. slice_range c.self.inside.buffer.items c.self.inside.first c.self.inside.last ++ xs) (ap (λ xs. take (length c.args.piece.now) xs) c.copy_from_slice.ensures.after ∙ take-length c.args.piece.now))
