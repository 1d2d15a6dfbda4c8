use Rattle.std.proofs.Common.{◌≡◌, true, take}
use Rattle.std.specs.List.{AllWithin, Any}
use Rattle.vx_layout.specs.inner.Groups.{AreGroups}
use Rattle.vx_layout.specs.Rects.{fits}
use Rattle.vx_layout.proofs.groups.group_slices.Given as goal

abbrev pub invariant-loop-k : goal.invariant-loop-k
invariant-loop-k l = record {
  groups : AreGroups l.groups.items (take l.k l.numbers.slices) l.numbers.subpics;
  split : AllWithin (λ r. Any (λ s. fits r s ≡ true) l.numbers.subpics) l.numbers.slices 0 l.k;
}
