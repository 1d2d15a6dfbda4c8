use Rattle.vx_bits.proofs.Appending.{close_is, close_end}
use Rattle.vx_bits.proofs.writer.BitWriter.close.Goals as goal

pub returns-clause-bits : goal.returns-clause-bits
returns-clause-bits c =
    rw (← c.self.view_is) (close_is c.self.inside.bytes.items c.push.new.self.items c.self.inside.used c.self.inside.begun c.self.invariant.0 c.self.invariant.1 c.in_ok-push.ensures.items)

pub returns-clause-end : goal.returns-clause-end
returns-clause-end c = close_end c.self.inside.bytes.items c.push.new.self.items c.self.inside.used c.self.inside.begun c.self.invariant.0 c.self.invariant.1 c.in_ok-push.ensures.items
