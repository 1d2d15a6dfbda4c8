use Rattle.std.proofs.Common.{◌≡◌, ◌*◌, pos, neg_ℤ, take}
use Rattle.std.specs.Prelude.{◌≤ℤ◌}
use Rattle.vx_frame.specs.Collocated.{delta_to}
use Rattle.vx_frame.proofs.collocated.delta_to.Given as goal

abbrev pub invariant-loop-i : goal.invariant-loop-i
invariant-loop-i l = record {
  value : l.sum ≡ delta_to (take l.i l.list);
  low : neg_ℤ (pos (l.i * 4294967295)) ≤ℤ l.sum;
  high : l.sum ≤ℤ pos (l.i * 4294967295);
}
