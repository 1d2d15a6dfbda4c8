use Rattle.std.proofs.Common.{refl}
use Rattle.vx_bits.proofs.Bits.{fixed_none}
use Rattle.vx_bits.proofs.reader.BitReader.new.Goals as goal

pub returns-clause-left : goal.returns-clause-left
returns-clause-left c = rw (fixed_none 0) refl
