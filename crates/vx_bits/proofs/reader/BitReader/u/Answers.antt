use Rattle.std.proofs.Common.{arith}
use Rattle.vx_bits.proofs.Bits.{takes_fixed}
use Rattle.vx_bits.proofs.reader.BitReader.u.Goals as goal

pub returns-clause-value : goal.returns-clause-value
returns-clause-value c =
    takes_fixed _ _ _ _ (omega (arith, c.left.ensures, c.if-left-n.false)) c.read_bits.ensures.value c.read_bits.ensures.left c.read_bits.ensures.total
