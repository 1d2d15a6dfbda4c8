use Rattle.vx_assemble.specs.Feed.{left_to_take}
use Rattle.vx_push.specs.inner.Comes.{StillSeeks}
use Rattle.vx_push.proofs.seek.seek.Given as goal

abbrev pub invariant-loop-state : goal.invariant-loop-state
invariant-loop-state l = StillSeeks l.initial.feed l.feed

abbrev pub decreases-loop-state : goal.decreases-loop-state
decreases-loop-state l = left_to_take l.feed
