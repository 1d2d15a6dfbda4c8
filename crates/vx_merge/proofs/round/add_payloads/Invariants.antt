use Rattle.std.proofs.Common.{◌≡◌, ◌++◌, map, take}
use Rattle.vx_merge.specs.inner.Making.{payload_of}
use Rattle.vx_merge.proofs.round.add_payloads.Given as goal

abbrev pub invariant-loop-i : goal.invariant-loop-i
invariant-loop-i l = map (λ b. b.now) l.payloads ≡ map (λ b. b.now) l.initial.payloads ++ map payload_of (take l.i l.picture.slices)
