use Rattle.std.proofs.Common.{◌≡◌, ◌+◌, ◌≤◌, ◌&&◌, length, filter, take}
use Rattle.std.specs.Prelude.{nat_lt}
use Rattle.vx_layout.proofs.entry.count_inner.Given as goal

abbrev pub invariant-loop-i : goal.invariant-loop-i
invariant-loop-i l = record {
  count_is : l.count ≡ length (filter (λ b. nat_lt l.from b && nat_lt b (l.from + l.size)) (take l.i l.bounds));
  upto : l.count ≤ l.i;
}
