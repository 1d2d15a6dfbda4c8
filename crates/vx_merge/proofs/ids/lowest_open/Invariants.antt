use Rattle.std.proofs.Common.{◌<◌, ℕ, true}
use Rattle.vx_merge.specs.inner.Taking.{IsOpen}
use Rattle.vx_merge.proofs.ids.lowest_open.Given as goal

abbrev pub invariant-loop-id : goal.invariant-loop-id
invariant-loop-id l = (i : ℕ) → i < l.id → ¬ IsOpen l.slots l.search.kind l.held l.ids true i
