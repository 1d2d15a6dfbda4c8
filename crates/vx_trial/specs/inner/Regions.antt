-- Regions of a merge, which are extracted. Our own.
use Rattle.std.specs.Prelude.{◌≡◌, ℕ, suc, ◌<◌, true, List, ◌∷◌, ◌++◌, drop, length, map, None}
use Rattle.std.specs.List.{AllByRecursion}
use Rattle.vx_annexb.specs.Laws.{written}
use Rattle.vx_pic.specs.Bytes.{AreSourcePictures}
use Rattle.vx_pic.specs.Parts.{Parts, parts_of}
use Rattle.vx_pic.specs.Readings.{Picture}
use Rattle.vx_pic.specs.Resident.{units_written}
use Rattle.vx_pic.specs.Rules.{Readers}
use Rattle.vx_pic.specs.Written.{Plan, units_of}
use Rattle.vx_assemble.specs.Feed.{Feeding}
use Rattle.vx_extract.specs.Extracting.{Extracting, HasSlice, Stands}
use Rattle.vx_extract.specs.Rules.{is_kept, refusal_of}
use Rattle.vx_extract.specs.Written.{AreExtracted, IsExtracted}
use Rattle.vx_trial.specs.inner.Feeds.{Waits}

-- Region k of a picture can be extracted.
pub record HasRegion (k : ℕ) (q : Parts) : Type 0 where
  pub rules : refusal_of k 6 q ≡ None
  pub kept : is_kept 6 q ≡ true
  pub slice : HasSlice k q

-- Bytes that are read as these pictures, `count` of them, of each of which region k can be extracted.
pub record CanBeExtracted (R : Readers) (k count : ℕ) (bytes : List ℕ) (ps : List Picture) : Type 0 where
  pub read : AreSourcePictures R bytes ps None
  pub many : length ps ≡ count
  pub each : AllByRecursion (λ p. HasRegion k (parts_of p)) ps

-- The first n regions can.
abbrev pub AllCanBeExtracted : Readers → (n count : ℕ) → List ℕ → List Picture → Type 0
AllCanBeExtracted R n count bytes ps = (k : ℕ) → k < n → CanBeExtracted R k count bytes ps

-- The region of a picture is written after others, and an extractor went from one state to another.
pub record IsExtractedOn (q : Parts) (done : List Plan) (old new : Extracting) (bytes bytes' : List ℕ) : Type 0 where
  pub plan : Plan
  pub is : IsExtracted old.target old.level q done plan
  pub more : bytes' ≡ bytes ++ written (units_of plan)
  pub stands : Stands new (plan ∷ done)

-- Of these pictures all but the last m are extracted, and those are to come.
pub record HasExtracted (R : Readers) (m : ℕ) (ps : List Picture) (f : Feeding) (x : Extracting) (bytes : List ℕ) : Type 0 where
  pub level : x.level ≡ None
  pub tid : x.tid ≡ 6
  pub waits : Waits R m f ps
  pub each : AllByRecursion (λ p. HasRegion x.target (parts_of p)) ps
  pub done : List Plan
  pub stands : Stands x done
  pub plans : AreExtracted x.target None (map parts_of (drop m ps)) done
  pub written : bytes ≡ written (units_written done)

-- One more is to come.
pub record MayExtract (R : Readers) (f : Feeding) (x : Extracting) (bytes : List ℕ) : Type 0 where
  pub left : ℕ
  pub pictures : List Picture
  pub extracted : HasExtracted R (suc left) pictures f x bytes
