-- What holds of generated streams and of their merge. Our own.
use Rattle.std.specs.Prelude.{ℕ, ◌≤◌, List, map}
use Rattle.std.specs.List.{range_with_len}
use Rattle.vx_pic.specs.H266.{AreOfH266}
use Rattle.vx_pic.specs.Readings.{Picture}
use Rattle.vx_pic.specs.Rules.{Readers}
use Rattle.vx_again.specs.Whole.{IsReadAsMerge}
use Rattle.vx_gen.specs.Rounds.{corners, planned}
use Rattle.vx_gen.specs.Streams.{generated}
use Rattle.vx_trial.specs.inner.Merges.{CanBeTried, IsMergeOf}
use Rattle.vx_trial.specs.inner.Regions.{AllCanBeExtracted}

-- The pictures of generated streams, as they are read.
abbrev pub sources_of : (seed sources pictures : ℕ) → List (List Picture)
sources_of seed sources pictures = map (planned seed pictures) (range_with_len 0 sources)

-- Generated streams can be merged side by side: they are read as these pictures, and no round is barred.
abbrev pub GeneratedCanBeTried : Type 0
GeneratedCanBeTried = (R : Readers) (seed sources pictures : ℕ) → AreOfH266 R → 1 ≤ sources → sources ≤ 16 → 1 ≤ pictures → pictures ≤ 1000
    → CanBeTried R (corners sources) pictures (generated seed sources pictures) (sources_of seed sources pictures)

-- What is written of them is read as their merge, and each region of it can be extracted.
pub record IsTriedAgain (R : Readers) (seed sources pictures : ℕ) (bytes : List ℕ) : Type 0 where
  pub merged : List Picture
  pub again : IsReadAsMerge R (corners sources) (sources_of seed sources pictures) bytes merged
  pub regions : AllCanBeExtracted R sources pictures bytes merged

abbrev pub TriedAreReadAgain : Type 0
TriedAreReadAgain = (R : Readers) (seed sources pictures : ℕ) (bytes : List ℕ) → AreOfH266 R → 1 ≤ sources → sources ≤ 16
    → 1 ≤ pictures → pictures ≤ 1000 → IsMergeOf (corners sources) (sources_of seed sources pictures) bytes
    → IsTriedAgain R seed sources pictures bytes
