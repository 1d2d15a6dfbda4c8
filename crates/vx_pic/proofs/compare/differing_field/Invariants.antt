use Rattle.std.proofs.Common.{◌≡◌, length}
use Rattle.vx_pic.specs.Differences as differences
use Rattle.vx_pic.proofs.compare.differing_field.Given as goal

-- they differ where what is left of both does
abbrev pub invariant-loop-item : goal.invariant-loop-item
invariant-loop-item l = differences.differing_field l.left l.behind ≡ differences.differing_field l.items l.others

abbrev pub decreases-loop-item : goal.decreases-loop-item
decreases-loop-item l = length l.left
