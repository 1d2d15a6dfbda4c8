use Rattle.std.proofs.Common.{take, Ok}
use Rattle.vx_write.specs.Writing.{Takes}
use Rattle.vx_merge.specs.inner.Making.{slice_units}
use Rattle.vx_merge.proofs.output.write_slices.Given as goal

-- the first slices were written
abbrev pub invariant-loop-i : goal.invariant-loop-i
invariant-loop-i g l =
    Takes (g.K.Sink.bytes_taken l.fn.out) (g.K.Sink.bytes_taken l.out) (g.K.Sink.write_faults l.fn.out) (g.K.Sink.write_faults l.out)
    (take l.i (slice_units l.units)) (Ok tt)
