use Rattle.std.proofs.Common.{length, ◌-◌}
use Rattle.vx_annexb.proofs.Fault.{IsUnescaped}
use Rattle.vx_annexb.proofs.emulation.unescape.Given as goal

abbrev pub invariant-loop-mark : goal.invariant-loop-mark
invariant-loop-mark l = IsUnescaped l.unit l.bytes.items l.at

abbrev pub decreases-loop-mark : goal.decreases-loop-mark
decreases-loop-mark l = length l.unit - l.at
