use Rattle.std.proofs.Common.{◌≡◌, ◌+◌, ◌≤◌, take}
use Rattle.vx_sei.specs.Sei.{spelled_length}
use Rattle.vx_assemble.proofs.gather.spelled_behind.Given as goal

abbrev pub invariant-loop-i : goal.invariant-loop-i
invariant-loop-i l = (l.total ≡ l.fn.before + spelled_length (take l.i l.messages)) × (l.total ≤ 65536)
