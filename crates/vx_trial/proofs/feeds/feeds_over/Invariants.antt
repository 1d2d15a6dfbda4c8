-- Each so far is over its stream.
use Rattle.std.proofs.Common.{take}
use Rattle.std.specs.List.{AllZip}
use Rattle.vx_trial.specs.inner.Feeds.{IsUnfed}
use Rattle.vx_trial.proofs.feeds.feeds_over.Given as goal

abbrev pub invariant-loop-stream : goal.invariant-loop-stream
invariant-loop-stream l = AllZip IsUnfed l.feeds.items (take l.stream-index l.streams)
