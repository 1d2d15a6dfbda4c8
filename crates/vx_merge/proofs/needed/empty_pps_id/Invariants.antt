use Rattle.std.proofs.Common.{◌<◌, ℕ}
use Rattle.vx_merge.specs.inner.Taking.{IsEmptyPps}
use Rattle.vx_merge.proofs.needed.empty_pps_id.Given as goal

abbrev pub invariant-loop-id : goal.invariant-loop-id
invariant-loop-id l = (i : ℕ) → i < l.id → ¬ IsEmptyPps l.slots i
