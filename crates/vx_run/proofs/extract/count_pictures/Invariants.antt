use Rattle.std.proofs.Common.{◌≡◌, ◌+◌, ◌-◌, ◌^◌, None}
use Rattle.vx_pic.specs.Rules.{Readers}
use Rattle.vx_pic.specs.H266.{AreOfH266}
use Rattle.vx_run.specs.Change.{change}
use Rattle.vx_run.specs.inner.Extracting.{IsTask, HasChecked}
use Rattle.vx_run.proofs.extract.count_pictures.Given as goal

-- the pictures that were taken are counted
abbrev pub invariant-loop-stays : goal.invariant-loop-stays
invariant-loop-stays g l =
    IsTask l.fn.task l.extractor
    × (l.extractor.first ≡ None)
    × ((R : Readers) → AreOfH266 R → HasChecked R l.fn.task (change (λ s. (goal.Source-dyn g (s.vtable, s.value)).bytes_left s.value) (λ s. (goal.Source-dyn g (s.vtable, s.value)).read_faults s.value) l.fn.source l.source) l.feed l.pictures l.kept)

abbrev pub decreases-loop-stays : goal.decreases-loop-stays
decreases-loop-stays g l = 2 ^ 40 + 1 - l.feed.units
