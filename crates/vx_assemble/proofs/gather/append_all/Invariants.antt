use Rattle.std.proofs.Common.{◌≡◌, ◌++◌, take}
use Rattle.vx_assemble.proofs.gather.append_all.Given as goal

abbrev pub invariant-loop-i : goal.invariant-loop-i
invariant-loop-i l = l.into ≡ l.initial.into ++ take l.i l.messages
