use Rattle.std.proofs.Common.{◌≡◌, ℕ, ◌<◌, map, take}
use Rattle.std.specs.Prelude.{flat_map}
use Rattle.vx_frame.specs.Bodies.{filters_in, once}
use Rattle.vx_frame.specs.Rules.{too_many_filters}
use Rattle.vx_frame.proofs.filters.round_filters.Given as goal

abbrev pub invariant-loop-k : goal.invariant-loop-k
invariant-loop-k l = (map (λ b. b.now) l.bodies ≡ once (flat_map filters_in (take l.k l.round))) × ((j : ℕ) → j < l.k → ¬ (too_many_filters l.round).breaks j)
