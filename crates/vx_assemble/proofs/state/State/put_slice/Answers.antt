use Rattle.std.proofs.Common.{refl}
use Rattle.vx_assemble.proofs.Ordering.{picture_ordered}
use Rattle.vx_assemble.proofs.Slots.{bytes_ordered, slice_ordered, begun_ordered}
use Rattle.vx_assemble.proofs.state.State.put_slice.Goals as goal

pub returns-in_err-push-clause-order : goal.returns-in_err-push-clause-order
returns-in_err-push-clause-order c =
    picture_ordered c.push.new.self c.args.self.now c.requires.order
    (rw (c.in_err-push.ensures.err, c.in_ok-append.ensures.ok)
    (bytes_ordered c.args.unit.now c.args.self.now.picture c.requires.order.picture c.requires.size))
    (rw (c.in_err-push.ensures.err, c.in_ok-append.ensures.ok) refl)

pub returns-clause-order : goal.returns-clause-order
returns-clause-order c =
    rw c.new.ensures
    (begun_ordered c.push.new.self c.args.self.now c.requires.order
    (rw (c.in_ok-push.ensures.ok, c.in_ok-append.ensures.ok, c.len-start.ensures)
    (slice_ordered c.args.unit.now c.args.read c.args.self.now.picture c.requires.order.picture c.requires.size c.requires.joined))
    (rw (c.in_ok-push.ensures.ok, c.in_ok-append.ensures.ok) refl))
