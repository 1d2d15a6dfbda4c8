use Rattle.vx_layout.proofs.Rising.{NextSoFar}
use Rattle.vx_layout.proofs.lines.next_bounds.Given as goal

abbrev pub invariant-loop-i : goal.invariant-loop-i
invariant-loop-i l = NextSoFar l.bounds l.next.items l.i
