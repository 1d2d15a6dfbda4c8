use Rattle.std.proofs.Common.{◌≡◌, map, take}
use Rattle.std.specs.Prelude.{flat_map}
use Rattle.vx_merge.specs.inner.Making.{payloads_in}
use Rattle.vx_merge.proofs.round.payloads.Given as goal

abbrev pub invariant-loop-k : goal.invariant-loop-k
invariant-loop-k l = map (λ b. b.now) l.payloads ≡ flat_map payloads_in (take l.k l.round)
