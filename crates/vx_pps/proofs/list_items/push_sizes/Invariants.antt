use Rattle.vx_pps.proofs.Pushing.{SizesLeft}
use Rattle.vx_pps.proofs.list_items.push_sizes.Given as goal

abbrev pub invariant-loop-i : goal.invariant-loop-i
invariant-loop-i l = SizesLeft l.initial.items l.items l.field l.bounds l.i
