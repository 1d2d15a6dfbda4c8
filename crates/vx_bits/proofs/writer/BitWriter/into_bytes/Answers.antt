use Rattle.vx_bits.proofs.Appending.{whole_bytes}
use Rattle.vx_bits.proofs.writer.BitWriter.into_bytes.Goals as goal

pub returns : goal.returns
returns c = rw (← c.self.view_is) (whole_bytes c.self.inside.bytes.items c.self.inside.used c.self.inside.begun c.self.invariant.0 (rw (← c.self.view_is) at c.requires))
