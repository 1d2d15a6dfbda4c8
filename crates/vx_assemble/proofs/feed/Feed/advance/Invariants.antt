use Rattle.std.proofs.Common.{◌+◌, ◌-◌, ◌^◌}
use Rattle.vx_assemble.specs.inner.Feed.{Passes}
use Rattle.vx_assemble.proofs.feed.Feed.advance.Given as goal

abbrev pub invariant-loop-taken : goal.invariant-loop-taken
invariant-loop-taken g l =
    Passes l.initial.self l.self
    ((goal.Source-dyn g l.initial.source.now).bytes_left l.initial.source.now.1) ((goal.Source-dyn g l.source.now).bytes_left l.source.now.1)
    ((goal.Source-dyn g l.initial.source.now).read_faults l.initial.source.now.1) ((goal.Source-dyn g l.source.now).read_faults l.source.now.1)

abbrev pub decreases-loop-taken : goal.decreases-loop-taken
decreases-loop-taken g l = 2 ^ 40 + 1 - l.self.units
