use Rattle.std.proofs.Common.{◌<◌, ℕ}
use Rattle.vx_merge.specs.inner.Taking.{IsHeldBy}
use Rattle.vx_merge.proofs.ids.held_id.Given as goal

abbrev pub invariant-loop-id : goal.invariant-loop-id
invariant-loop-id l = (i : ℕ) → i < l.id → ¬ IsHeldBy l.slots l.search.temporal_id l.search.kind l.body i
