use Rattle.std.proofs.Common.{◌≡◌, take}
use Rattle.std.specs.Prelude.{◌==◌}
use Rattle.std.specs.List.{list_any}
use Rattle.vx_frame.specs.Shapes.{numbers_in_round}
use Rattle.vx_frame.proofs.shapes.has_zero.Given as goal

abbrev pub invariant-loop-k : goal.invariant-loop-k
invariant-loop-k l = l.found ≡ list_any (λ n. n == 0) (numbers_in_round (take l.k l.round) l.field)
