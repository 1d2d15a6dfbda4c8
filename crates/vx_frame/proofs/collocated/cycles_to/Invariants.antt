use Rattle.std.proofs.Common.{◌≡◌, ◌≤◌, ◌*◌, take}
use Rattle.vx_frame.specs.Collocated.{cycles_to}
use Rattle.vx_frame.proofs.collocated.cycles_to.Given as goal

abbrev pub invariant-loop-i : goal.invariant-loop-i
invariant-loop-i l = record {
  value : l.sum ≡ cycles_to (take l.i l.list);
  high : l.sum ≤ l.i * 4294967295;
}
