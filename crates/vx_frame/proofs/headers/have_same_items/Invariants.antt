use Rattle.vx_frame.specs.inner.Found.{HaveSameItems}
use Rattle.vx_frame.proofs.headers.have_same_items.Given as goal

abbrev pub invariant-loop-k : goal.invariant-loop-k
invariant-loop-k l = HaveSameItems l.k l.round
