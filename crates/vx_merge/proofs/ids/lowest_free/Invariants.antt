use Rattle.std.proofs.Common.{◌≡◌, ◌<◌, ℕ, ◌-◌, true}
use Rattle.vx_merge.specs.inner.Taking.{is_taken}
use Rattle.vx_merge.proofs.ids.lowest_free.Given as goal

abbrev pub invariant-loop-id : goal.invariant-loop-id
invariant-loop-id l = (i : ℕ) → i < l.id → is_taken l.held l.ids i ≡ true

abbrev pub decreases-loop-id : goal.decreases-loop-id
decreases-loop-id l = l.fn.search.count - l.id
