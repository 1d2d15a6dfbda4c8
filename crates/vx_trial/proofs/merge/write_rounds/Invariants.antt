-- So many rounds are written.
use Rattle.std.proofs.Common.{◌-◌, List}
use Rattle.vx_pic.specs.H266.{AreOfH266}
use Rattle.vx_pic.specs.Readings.{Picture}
use Rattle.vx_pic.specs.Rules.{Readers}
use Rattle.vx_merge.specs.Merging.{SameTask}
use Rattle.vx_trial.specs.inner.Merges.{HasMerged}
use Rattle.vx_trial.proofs.merge.write_rounds.Given as goal

abbrev pub invariant-loop : goal.invariant-loop
invariant-loop l =
    SameTask l.fn.merger l.merger
    × ((R : Readers) → AreOfH266 R → (sources : List (List Picture)) → HasMerged R l.pictures sources l.fn.feeds.items l.fn.merger l.fn.merged.taken
    → HasMerged R (l.pictures - l.counter) sources l.feeds.items l.merger l.merged.taken)
