use Rattle.std.proofs.Common.{◌≡◌, ◌-◌, ◌<◌, ◌≤◌, ◌++◌, length}
use Rattle.vx_layout.specs.Bounds.{Rises, last, repeated_sizes, sums_after}
use Rattle.vx_layout.proofs.bounds.push_repeated.Given as goal

-- what is still to come follows what is there
abbrev pub invariant-loop-at : goal.invariant-loop-at
invariant-loop-at l = record {
  rises : Rises l.bounds;
  some : 0 < length l.bounds;
  at_end : last l.bounds ≡ l.at;
  within : l.at ≤ l.total;
  whole : l.bounds ++ sums_after l.at (repeated_sizes l.size (l.total - l.at)) ≡ l.initial.bounds ++ sums_after l.initial.at (repeated_sizes l.size (l.total - l.initial.at));
}

abbrev pub decreases-loop-at : goal.decreases-loop-at
decreases-loop-at l = l.total - l.at
