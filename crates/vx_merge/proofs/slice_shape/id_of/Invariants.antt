use Rattle.std.proofs.Common.{◌≡◌, map, drop}
use Rattle.vx_merge.specs.Needed.{id_of_body}
use Rattle.vx_merge.proofs.slice_shape.id_of.Given as goal

abbrev pub invariant-loop-i : goal.invariant-loop-i
invariant-loop-i l = id_of_body (drop l.i (map (λ b. b.now) l.named.bodies)) (drop l.i l.named.ids.items) l.body ≡ id_of_body
    (map (λ b. b.now) l.named.bodies) l.named.ids.items l.body
