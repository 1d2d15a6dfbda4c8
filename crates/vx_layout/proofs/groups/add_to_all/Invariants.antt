use Rattle.std.proofs.Common.{◌≡◌, ℕ, ◌<◌, ◌≤◌, List, [], ◌∷◌, ◌++◌, length}
use Rattle.std.specs.List.{slice_index_or}
use Rattle.vx_layout.specs.declared.rect.Rect.{Rect}
use Rattle.vx_layout.proofs.groups.add_to_all.Given as goal

abbrev pub invariant-loop-i : goal.invariant-loop-i
invariant-loop-i l = record {
  long : length l.groups.items ≡ length l.initial.groups.items;
  added : (i : ℕ) (e : List Rect) → i < l.i → slice_index_or l.groups.items i e ≡ slice_index_or l.initial.groups.items i e ++ l.slice ∷ [];
  kept : (i : ℕ) (e : List Rect) → l.i ≤ i → slice_index_or l.groups.items i e ≡ slice_index_or l.initial.groups.items i e;
}
