use Rattle.vx_bits.proofs.Appending.{aligned_is}
use Rattle.vx_bits.proofs.writer.BitWriter.is_aligned.Goals as goal

pub returns : goal.returns
returns c = rw (← c.self.view_is) (aligned_is c.self.inside.bytes.items c.self.inside.used c.self.inside.begun c.self.invariant.0)
