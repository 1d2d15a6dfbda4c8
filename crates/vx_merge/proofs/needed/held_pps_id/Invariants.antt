use Rattle.std.proofs.Common.{◌<◌, ℕ}
use Rattle.vx_merge.specs.inner.Taking.{IsHeldAs}
use Rattle.vx_merge.proofs.needed.held_pps_id.Given as goal

abbrev pub invariant-loop-id : goal.invariant-loop-id
invariant-loop-id l = (i : ℕ) → i < l.id → ¬ IsHeldAs l.slots l.temporal_id l.pps i
