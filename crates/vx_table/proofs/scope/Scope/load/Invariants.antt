use Rattle.std.proofs.Common.{◌≡◌, drop}
use Rattle.vx_table.specs.Scope.{loaded}
use Rattle.vx_table.proofs.scope.Scope.load.Given as goal

abbrev pub invariant-loop-i : goal.invariant-loop-i
invariant-loop-i l = loaded l.self (drop l.i l.items) ≡ loaded l.fn.self l.fn.items
