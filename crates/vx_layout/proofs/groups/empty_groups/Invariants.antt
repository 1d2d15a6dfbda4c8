use Rattle.std.proofs.Common.{◌≡◌, ℕ, ◌-◌, ◌<◌, ◌≤◌, List, [], length, vec_len}
use Rattle.std.specs.List.{slice_index_or}
use Rattle.vx_layout.specs.declared.rect.Rect.{Rect}
use Rattle.vx_layout.proofs.groups.empty_groups.Given as goal

abbrev pub invariant-loop-alloc : goal.invariant-loop-alloc
invariant-loop-alloc l = record {
  upto : vec_len l.groups ≤ l.count;
  empty : (i : ℕ) (e : List Rect) → i < length l.groups.items → slice_index_or l.groups.items i e ≡ [];
}

abbrev pub decreases-loop-alloc : goal.decreases-loop-alloc
decreases-loop-alloc l = l.count - vec_len l.groups
