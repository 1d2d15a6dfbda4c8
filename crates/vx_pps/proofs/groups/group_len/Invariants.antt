use Rattle.std.proofs.Common.{◌≤◌}
use Rattle.vx_layout.specs.Bounds.{Rises}
use Rattle.vx_pps.proofs.Finding.{NoneEnds}
use Rattle.vx_pps.proofs.groups.group_len.Given as goal

abbrev pub invariant-loop-i : goal.invariant-loop-i
invariant-loop-i l = record { none : NoneEnds l.tiles l.slices l.i; rises : 1 ≤ l.i → Rises l.tiles.rows }
