use Rattle.std.proofs.Common.{◌≡◌, length}
use Rattle.vx_io.proofs.WrittenLemmas.{Underway}
use Rattle.vx_io.proofs.write.write_all.Given as goal

abbrev pub invariant-loop-rest : goal.invariant-loop-rest
invariant-loop-rest g l =
    Underway (g.K.Sink.bytes_taken l.fn.out) (g.K.Sink.bytes_taken l.out) (g.K.Sink.write_faults l.fn.out) (g.K.Sink.write_faults l.out) l.piece l.rest
    × (length l.piece ≡ 0 → l.out ≡ l.fn.out)

abbrev pub decreases-loop-rest : goal.decreases-loop-rest
decreases-loop-rest g l = length l.rest
