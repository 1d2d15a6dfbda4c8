use Rattle.vx_annexb.specs.inner.Reading.{Taking, reads_left}
use Rattle.vx_annexb.proofs.unit_reader.UnitReader.take.Given as goal

abbrev pub invariant-loop-span : goal.invariant-loop-span
invariant-loop-span g l =
    Taking l.initial.self l.self
    ((goal.Source-dyn g l.initial.source.now).bytes_left l.initial.source.now.1) ((goal.Source-dyn g l.source.now).bytes_left l.source.now.1)
    ((goal.Source-dyn g l.initial.source.now).read_faults l.initial.source.now.1) ((goal.Source-dyn g l.source.now).read_faults l.source.now.1)

abbrev pub decreases-loop-span : goal.decreases-loop-span
decreases-loop-span g l = reads_left l.self.taken l.self.closed
