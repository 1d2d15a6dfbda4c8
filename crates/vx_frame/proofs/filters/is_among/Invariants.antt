use Rattle.std.proofs.Common.{◌≡◌, map, drop}
use Rattle.vx_frame.specs.Bodies.{is_among}
use Rattle.vx_frame.proofs.filters.is_among.Given as goal

abbrev pub invariant-loop-i : goal.invariant-loop-i
invariant-loop-i l = is_among l.body (drop l.i (map (λ b. b.now) l.bodies)) ≡ is_among l.body (map (λ b. b.now) l.bodies)
