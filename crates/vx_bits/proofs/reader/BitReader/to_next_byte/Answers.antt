use Rattle.std.proofs.Common.{arith}
use Rattle.vx_bits.proofs.Windows.{boundary_ahead, length_ahead}
use Rattle.vx_bits.proofs.reader.BitReader.to_next_byte.Goals as goal

pub returns-clause-value : goal.returns-clause-value
returns-clause-value c = rw (← c.self.view_is) (boundary_ahead c.self.inside.bytes.now c.self.inside.window c.self.invariant.1)

pub returns-clause-within : goal.returns-clause-within
returns-clause-within c = rw (← c.self.view_is, length_ahead c.self.inside.bytes.now c.self.inside.window) (omega arith)
