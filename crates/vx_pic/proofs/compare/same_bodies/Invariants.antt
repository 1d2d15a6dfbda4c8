use Rattle.std.proofs.Common.{◌≡◌, take, map}
use Rattle.vx_pic.proofs.compare.same_bodies.Given as goal

abbrev pub invariant-loop-i : goal.invariant-loop-i
invariant-loop-i l = take l.i (map (λ body. body.now) l.a) ≡ take l.i (map (λ body. body.now) l.b)
