use Rattle.std.proofs.Common.{◌≡◌, ◌+◌, map, take}
use Rattle.std.specs.List.{AllByRecursion}
use Rattle.vx_bits.specs.Codes.{AreBytes}
use Rattle.vx_merge.specs.inner.Making.{capped, size_of}
use Rattle.vx_merge.proofs.limits.with_units.Given as goal

abbrev pub invariant-loop-k : goal.invariant-loop-k
invariant-loop-k l =
    (l.sum ≡ capped (l.total + size_of 4 (take l.k (map (λ u. u.items) l.units)))) × AllByRecursion AreBytes (take l.k (map (λ u. u.items) l.units))
