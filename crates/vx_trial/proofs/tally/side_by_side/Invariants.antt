-- So many corners.
use Rattle.std.proofs.Common.{◌≡◌}
use Rattle.vx_gen.specs.Rounds.{corners}
use Rattle.vx_trial.proofs.tally.side_by_side.Given as goal

abbrev pub invariant-loop-k : goal.invariant-loop-k
invariant-loop-k l = l.corners.items ≡ corners l.k
