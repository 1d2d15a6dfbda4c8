use Rattle.vx_annexb.specs.Held.{ahead, Lends}
use Rattle.vx_calls.proofs.splitter.take_units.Given as goal

abbrev pub invariant-loop-span : goal.invariant-loop-span
invariant-loop-span l = Lends l.initial.splitter l.splitter

abbrev pub decreases-loop-span : goal.decreases-loop-span
decreases-loop-span l = ahead l.splitter
