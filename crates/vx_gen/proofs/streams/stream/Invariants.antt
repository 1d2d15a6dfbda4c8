-- So many pictures were drawn and written.
use Rattle.std.proofs.Common.{◌≡◌, ℕ, ◌+◌, ◌*◌}
use Rattle.vx_annexb.specs.Laws.{written}
use Rattle.vx_gen.specs.Draws.{state}
use Rattle.vx_gen.specs.Streams.{units}
use Rattle.vx_gen.proofs.streams.stream.Given as goal

abbrev pub invariant-loop-p : goal.invariant-loop-p
invariant-loop-p l = (seed n : ℕ) → l.initial.draws.state ≡ state seed n
    → (l.draws.state ≡ state seed (n + 5 * l.p)) × (l.stream ≡ written (units seed n l.k l.p))
