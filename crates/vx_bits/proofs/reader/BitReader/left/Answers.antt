use Rattle.std.proofs.Common.{arith}
use Rattle.vx_bits.proofs.Windows.{length_ahead}
use Rattle.vx_bits.proofs.reader.BitReader.left.Goals as goal

pub returns : goal.returns
returns c = rw (← c.self.view_is, length_ahead c.self.inside.bytes.now c.self.inside.window) (omega arith)
