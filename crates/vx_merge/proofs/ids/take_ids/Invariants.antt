use Rattle.std.proofs.Common.{◌≡◌, length}
use Rattle.vx_merge.specs.inner.Taking.{AreIds}
use Rattle.vx_merge.proofs.ids.take_ids.Given as goal

abbrev pub invariant-loop-k : goal.invariant-loop-k
invariant-loop-k l = AreIds l.slots l.search.kind l.search.count l.held.items l.ids.items × (length l.ids.items ≡ l.k)
