use Rattle.vx_annexb.proofs.EscapedBytes.{Escapes}
use Rattle.vx_annexb.proofs.emulation.escape.Given as goal

abbrev pub invariant-loop-byte : goal.invariant-loop-byte
invariant-loop-byte l = Escapes l.bytes l.unit.items l.byte-index l.zeros
