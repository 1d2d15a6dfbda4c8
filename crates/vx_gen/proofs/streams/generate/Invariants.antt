-- So many streams were made.
use Rattle.std.proofs.Common.{◌≡◌, ◌*◌}
use Rattle.vx_gen.specs.Draws.{state}
use Rattle.vx_gen.specs.Streams.{generated}
use Rattle.vx_gen.proofs.streams.generate.Given as goal

abbrev pub invariant-loop-k : goal.invariant-loop-k
invariant-loop-k l = (l.draws.state ≡ state l.fn.seed (5 * (l.k * l.pictures))) × (l.streams ≡ generated l.fn.seed l.k l.pictures)
