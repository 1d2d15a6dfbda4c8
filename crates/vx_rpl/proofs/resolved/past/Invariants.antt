use Rattle.std.proofs.Common.{◌≡◌, length}
use Rattle.vx_rpl.specs.Resolved as spec
use Rattle.vx_rpl.proofs.resolved.past.Given as goal

abbrev pub invariant-loop-item : goal.invariant-loop-item
invariant-loop-item l = spec.past l.field l.left ≡ spec.past l.field l.items

abbrev pub decreases-loop-item : goal.decreases-loop-item
decreases-loop-item l = length l.left
