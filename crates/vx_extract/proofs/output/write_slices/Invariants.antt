use Rattle.std.proofs.Common.{Ok}
use Rattle.vx_write.specs.Writing.{Takes}
use Rattle.vx_extract.proofs.Writing.{units_to}
use Rattle.vx_extract.proofs.output.write_slices.Given as goal

-- the first slices were written
abbrev pub invariant-loop-i : goal.invariant-loop-i
invariant-loop-i g l =
    Takes (g.K.Sink.bytes_taken l.fn.out) (g.K.Sink.bytes_taken l.out) (g.K.Sink.write_faults l.fn.out) (g.K.Sink.write_faults l.out)
    (units_to l.picture.slices l.target l.i) (Ok tt)
