-- Those that came so far were weighed.
use Rattle.std.proofs.Common.{◌++◌, ℕ, List, take}
use Rattle.vx_trial.specs.inner.Weighing.{Weighs}
use Rattle.vx_trial.proofs.weight.Weight.add.Given as goal

abbrev pub invariant-loop-byte : goal.invariant-loop-byte
invariant-loop-byte l = (before : List ℕ) → Weighs before l.initial.self → Weighs (before ++ take l.byte-index l.bytes) l.self
