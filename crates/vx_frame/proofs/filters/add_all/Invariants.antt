use Rattle.std.proofs.Common.{◌≡◌, map, take}
use Rattle.vx_frame.specs.Bodies.{with_bodies}
use Rattle.vx_frame.proofs.filters.add_all.Given as goal

abbrev pub invariant-loop-i : goal.invariant-loop-i
invariant-loop-i l = map (λ b. b.now) l.bodies ≡ with_bodies (map (λ b. b.now) l.initial.bodies) (take l.i (map (λ b. b.now) l.more))
