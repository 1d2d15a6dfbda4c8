use Rattle.vx_bits.proofs.Windows.{front_number}
use Rattle.vx_bits.proofs.reader.BitReader.next_bits.Goals as goal

pub returns-clause-value : goal.returns-clause-value
returns-clause-value c =
    rw (← c.self.view_is, ← c.filled-self-inside.ensures.same)
    (front_number c.self.inside.bytes.now c.filled-self-inside.result c.args.count c.filled-self-inside.ensures.sound c.filled-self-inside.ensures.enough)
