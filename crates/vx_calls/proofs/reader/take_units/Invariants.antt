use Rattle.std.proofs.Common.{◌≡◌, Some}
use Rattle.vx_annexb.specs.declared.unit_reader.Closed.TheVariants.{Failed}
use Rattle.vx_calls.proofs.reader.take_units.Given as goal

abbrev pub invariant-loop : goal.invariant-loop
invariant-loop l = l.reader.closed ≡ Some Failed → ⊥
