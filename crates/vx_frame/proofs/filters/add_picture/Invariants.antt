use Rattle.std.proofs.Common.{◌≡◌, map, take}
use Rattle.std.specs.Prelude.{flat_map}
use Rattle.vx_frame.specs.Bodies.{filters_of, with_bodies}
use Rattle.vx_frame.proofs.filters.add_picture.Given as goal

abbrev pub invariant-loop-i : goal.invariant-loop-i
invariant-loop-i l = map (λ b. b.now) l.bodies ≡ with_bodies (map (λ b. b.now) l.initial.bodies) (flat_map (filters_of l.picture) (take l.i l.picture.slices))
