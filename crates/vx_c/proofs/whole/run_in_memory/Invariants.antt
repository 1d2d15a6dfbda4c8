use Rattle.std.proofs.Common.{◌≡◌, ◌+◌, vec_len}
use Rattle.vx_c.proofs.whole.run_in_memory.Given as goal

-- one source for each stream so far
abbrev pub invariant-loop-stream : goal.invariant-loop-stream
invariant-loop-stream l = vec_len l.sources + l.stream-iterator.rest.len ≡ l.initial.stream-iterator.rest.len
