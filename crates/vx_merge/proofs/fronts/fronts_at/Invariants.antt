use Rattle.std.proofs.Common.{map, take}
use Rattle.vx_pic.specs.Readings.{Begun}
use Rattle.vx_merge.specs.Headers.{sourced}
use Rattle.vx_merge.specs.inner.Fronts.{AreFronts, IsBegun}
use Rattle.vx_merge.proofs.fronts.fronts_at.Given as goal

abbrev pub invariant-loop-k : goal.invariant-loop-k
invariant-loop-k l = (b : Begun) → IsBegun l.round l.needed l.numbers.header.now l.numbers.layout.now b
    → AreFronts l.round l.needed b (sourced 0 (take l.k l.round)) (map (λ f. f.items) l.fronts.items)
