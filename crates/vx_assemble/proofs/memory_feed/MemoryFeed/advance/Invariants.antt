use Rattle.vx_annexb.specs.Held.{ahead}
use Rattle.vx_assemble.specs.inner.Memory.{PassesOn}
use Rattle.vx_assemble.proofs.memory_feed.MemoryFeed.advance.Given as goal

abbrev pub invariant-loop-step : goal.invariant-loop-step
invariant-loop-step l = PassesOn l.initial.self l.self

abbrev pub decreases-loop-step : goal.decreases-loop-step
decreases-loop-step l = ahead l.self.reader.splitter
