use Rattle.std.proofs.Common.{◌≡◌, false, take}
use Rattle.std.specs.List.{list_any}
use Rattle.vx_merge.specs.inner.Taking.{is_id}
use Rattle.vx_merge.proofs.ids.has_held.Given as goal

abbrev pub invariant-loop-k : goal.invariant-loop-k
invariant-loop-k l = list_any (is_id l.id) (take l.k l.held) ≡ false
