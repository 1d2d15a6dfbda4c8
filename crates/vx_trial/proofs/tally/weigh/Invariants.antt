-- So many regions are weighed.
use Rattle.std.proofs.Common.{◌++◌, ℕ, List, None, map}
use Rattle.std.specs.List.{AllZip, concat, range_with_len}
use Rattle.vx_pic.specs.H266.{AreOfH266}
use Rattle.vx_pic.specs.Parts.{parts_of}
use Rattle.vx_pic.specs.Readings.{Picture}
use Rattle.vx_pic.specs.Rules.{Readers}
use Rattle.vx_extract.specs.Written.{IsExtraction}
use Rattle.vx_trial.specs.inner.Regions.{AllCanBeExtracted}
use Rattle.vx_trial.specs.inner.Weighing.{Weighs}
use Rattle.vx_trial.proofs.tally.weigh.Given as goal

abbrev pub invariant-loop-k : goal.invariant-loop-k
invariant-loop-k l = (R : Readers) → AreOfH266 R → (ps : List Picture) → AllCanBeExtracted R l.sources l.pictures l.merged ps
    → (parts : List (List ℕ)) × AllZip (λ k bytes. IsExtraction k None (map parts_of ps) bytes) (range_with_len 0 l.k) parts
    × Weighs (l.merged ++ concat parts) l.weight
