use Rattle.vx_bits.proofs.Windows.{stop_ahead, stop_ahead_within}
use Rattle.vx_bits.proofs.reader.BitReader.past_next_one.Goals as goal

pub returns-clause-value : goal.returns-clause-value
returns-clause-value c = rw (← c.self.view_is) (stop_ahead c.self.inside.bytes.now c.self.inside.window c.self.invariant.1)

pub returns-clause-within : goal.returns-clause-within
returns-clause-within c = rw (← c.self.view_is) (stop_ahead_within c.self.inside.bytes.now c.self.inside.window c.self.invariant.1)
