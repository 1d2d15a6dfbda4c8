use Rattle.std.proofs.Common.{◌<◌, ◌-◌, arith}
use Rattle.vx_bits.proofs.Bits.{shifted_one}
use Rattle.vx_bits.proofs.Windows.{front_number, rest_ahead}
use Rattle.vx_bits.proofs.reader.BitReader.read_bits.Goals as goal

pub returns-clause-value : goal.returns-clause-value
returns-clause-value c =
    rw (← c.self.view_is, ← c.filled-word.ensures.same)
    (front_number c.self.inside.bytes.now c.filled-word.result c.args.count c.filled-word.ensures.sound c.filled-word.ensures.enough)

pub returns-clause-left : goal.returns-clause-left
returns-clause-left c =
    let few : c.filled-word.result.held - c.args.count < 64 = omega (arith, c.filled-word.ensures.sound.few) in
    rw (shifted_one (c.filled-word.result.held - c.args.count) few, ← c.self.view_is, ← c.filled-word.ensures.same)
    (rest_ahead c.self.inside.bytes.now c.filled-word.result c.args.count c.filled-word.ensures.sound c.filled-word.ensures.enough)
