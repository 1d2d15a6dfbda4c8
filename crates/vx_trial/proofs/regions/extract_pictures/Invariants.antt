-- So many pictures are extracted.
use Rattle.std.proofs.Common.{◌-◌, List, []}
use Rattle.vx_pic.specs.H266.{AreOfH266}
use Rattle.vx_pic.specs.Readings.{Picture}
use Rattle.vx_pic.specs.Rules.{Readers}
use Rattle.vx_extract.specs.Extracting.{SameTask}
use Rattle.vx_trial.specs.inner.Regions.{HasExtracted}
use Rattle.vx_trial.proofs.regions.extract_pictures.Given as goal

abbrev pub invariant-loop : goal.invariant-loop
invariant-loop l =
    SameTask l.fn.extractor l.extractor
    × ((R : Readers) → AreOfH266 R → (ps : List Picture) → HasExtracted R l.pictures ps l.fn.feed l.fn.extractor []
    → HasExtracted R (l.pictures - l.counter) ps l.feed l.extractor l.region.taken)
