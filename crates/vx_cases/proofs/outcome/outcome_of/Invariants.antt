use Rattle.std.proofs.Common.{◌≡◌, vec_len}
use Rattle.vx_cases.proofs.outcome.outcome_of.Given as goal

-- one source for each file so far
abbrev pub invariant-loop-k : goal.invariant-loop-k
invariant-loop-k l = vec_len l.sources ≡ l.k
