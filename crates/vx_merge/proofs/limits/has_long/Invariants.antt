use Rattle.std.proofs.Common.{◌≡◌, false, map, take}
use Rattle.std.specs.List.{list_any}
use Rattle.vx_merge.specs.inner.Making.{is_long}
use Rattle.vx_merge.proofs.limits.has_long.Given as goal

abbrev pub invariant-loop-k : goal.invariant-loop-k
invariant-loop-k l = list_any is_long (take l.k (map (λ u. u.items) l.units)) ≡ false
