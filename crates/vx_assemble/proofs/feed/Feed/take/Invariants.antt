use Rattle.vx_annexb.specs.inner.Reading.{reads_left}
use Rattle.vx_assemble.specs.inner.Feed.{Seeks}
use Rattle.vx_assemble.proofs.feed.Feed.take.Given as goal

abbrev pub invariant-loop-taken : goal.invariant-loop-taken
invariant-loop-taken g l =
    Seeks l.initial.self l.self
    ((goal.Source-dyn g l.initial.source.now).bytes_left l.initial.source.now.1) ((goal.Source-dyn g l.source.now).bytes_left l.source.now.1)
    ((goal.Source-dyn g l.initial.source.now).read_faults l.initial.source.now.1) ((goal.Source-dyn g l.source.now).read_faults l.source.now.1)

abbrev pub decreases-loop-taken : goal.decreases-loop-taken
decreases-loop-taken g l = reads_left l.self.reader.taken l.self.reader.closed
