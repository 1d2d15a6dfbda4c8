use Rattle.std.proofs.Common.{arith}
use Rattle.vx_bits.proofs.Windows.{taken_ahead, length_ahead}
use Rattle.vx_bits.proofs.reader.BitReader.at.Goals as goal

pub returns-clause-taken : goal.returns-clause-taken
returns-clause-taken c = rw (← c.self.view_is) (taken_ahead c.self.inside.bytes.now c.self.inside.window c.self.invariant.1)

pub returns-clause-within : goal.returns-clause-within
returns-clause-within c =
    let sound = c.self.invariant.1 in
    rw (← c.self.view_is, length_ahead c.self.inside.bytes.now c.self.inside.window) (omega (arith, sound.passed, sound.within))
