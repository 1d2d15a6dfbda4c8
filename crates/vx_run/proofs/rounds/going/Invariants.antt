use Rattle.std.proofs.Common.{◌≡◌, vec_len}
use Rattle.vx_run.proofs.rounds.going.Given as goal

abbrev pub invariant-loop : goal.invariant-loop
invariant-loop l = vec_len l.ended ≡ l.counter
