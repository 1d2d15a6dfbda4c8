use Rattle.std.proofs.Common.{length, ◌-◌}
use Rattle.vx_annexb.proofs.Fault.{IsClear}
use Rattle.vx_annexb.proofs.emulation.fault_from.Given as goal

abbrev pub invariant-loop-mark : goal.invariant-loop-mark
invariant-loop-mark l = IsClear l.unit l.at

abbrev pub decreases-loop-mark : goal.decreases-loop-mark
decreases-loop-mark l = length l.unit - l.at
