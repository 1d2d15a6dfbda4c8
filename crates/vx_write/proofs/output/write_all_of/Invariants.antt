use Rattle.std.proofs.Common.{take, map, Ok}
use Rattle.vx_write.specs.Writing.{Takes}
use Rattle.vx_write.proofs.output.write_all_of.Given as goal

-- the first units were written
abbrev pub invariant-loop-unit : goal.invariant-loop-unit
invariant-loop-unit g l =
    Takes (g.K.Sink.bytes_taken l.fn.out) (g.K.Sink.bytes_taken l.out) (g.K.Sink.write_faults l.fn.out) (g.K.Sink.write_faults l.out)
    (map (λ unit. unit.items) (take l.unit-index l.units)) (Ok tt)
