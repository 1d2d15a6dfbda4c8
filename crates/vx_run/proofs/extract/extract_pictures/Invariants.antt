use Rattle.std.proofs.Common.{◌+◌, ◌-◌, ◌^◌}
use Rattle.vx_pic.specs.Rules.{Readers}
use Rattle.vx_pic.specs.H266.{AreOfH266}
use Rattle.vx_run.specs.Change.{change}
use Rattle.vx_run.specs.inner.Extracting.{IsTask, HasExtracted, task_held}
use Rattle.vx_run.proofs.extract.extract_pictures.Given as goal

-- the pictures that were taken are extracted
abbrev pub invariant-loop-feed : goal.invariant-loop-feed
invariant-loop-feed g l =
    IsTask (task_held l.fn.extractor) l.extractor
    × ((R : Readers) → AreOfH266 R → HasExtracted R (task_held l.fn.extractor) (change (λ s. (goal.Source-dyn g (s.vtable, s.value)).bytes_left s.value) (λ s. (goal.Source-dyn g (s.vtable, s.value)).read_faults s.value) l.fn.source l.source) (change g.K.Sink.bytes_taken g.K.Sink.write_faults l.fn.out l.out) l.feed l.extractor l.pictures)

abbrev pub decreases-loop-feed : goal.decreases-loop-feed
decreases-loop-feed g l = 2 ^ 40 + 1 - l.feed.units
