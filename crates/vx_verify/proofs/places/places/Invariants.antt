use Rattle.std.proofs.Common.{◌≤◌}
use Rattle.std.specs.Prelude.{vec_len}
use Rattle.vx_verify.proofs.Placing.{ArePlacesOf}
use Rattle.vx_verify.proofs.places.places.Given as goal

abbrev pub invariant-loop-i : goal.invariant-loop-i
invariant-loop-i l = ArePlacesOf l.picture l.k l.i l.places.items × (vec_len l.places ≤ l.i)
