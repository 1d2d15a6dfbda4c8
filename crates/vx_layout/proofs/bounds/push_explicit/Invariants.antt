use Rattle.std.proofs.Common.{◌≡◌, ◌≤◌, ◌∷◌, sum, take}
use Rattle.vx_layout.specs.Bounds.{Rises, last, sums_after}
use Rattle.vx_layout.proofs.bounds.push_explicit.Given as goal

abbrev pub invariant-loop-i : goal.invariant-loop-i
invariant-loop-i l = record {
  at_is : l.at ≡ sum (take l.i l.explicit);
  within : l.at ≤ l.total;
  bounds_are : l.bounds ≡ 0 ∷ sums_after 0 (take l.i l.explicit);
  rises : Rises l.bounds;
  at_end : last l.bounds ≡ l.at;
}
