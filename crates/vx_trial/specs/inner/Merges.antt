-- Streams that are merged, one round of their pictures after another. Our own.
use Rattle.std.specs.Prelude.{◌≡◌, ℕ, suc, ◌<◌, ◌≤◌, List, ◌∷◌, ◌++◌, drop, length, map, Some, None}
use Rattle.std.specs.List.{AllByRecursion, AllZip}
use Rattle.vx_bits.specs.declared.refusal.Refusal.{Refusal}
use Rattle.vx_annexb.specs.Laws.{written}
use Rattle.vx_pic.specs.Bytes.{AreSourcePictures}
use Rattle.vx_pic.specs.Inputs.{inputs_of}
use Rattle.vx_pic.specs.Parts.{Parts, parts_of}
use Rattle.vx_pic.specs.Readings.{Picture}
use Rattle.vx_pic.specs.Resident.{units_written}
use Rattle.vx_pic.specs.Rules.{Readers}
use Rattle.vx_pic.specs.Written.{Plan, units_of}
use Rattle.vx_assemble.specs.Feed.{Feeding}
use Rattle.vx_frame.specs.declared.corner.Corner.{Corner}
use Rattle.vx_merge.specs.Merging.{IsBarred, Merging, Passes, Stands}
use Rattle.vx_again.specs.Streams.{AreMerged, lasts}
use Rattle.vx_trial.specs.inner.Feeds.{Waits}

-- ---- streams

-- The pictures of streams before the last m, the latest first.
abbrev pub before_last : {A : Type 0} → ℕ → List (List A) → List (List A)
before_last m sources = map (λ ps. drop m ps) sources

-- Whatever was written of the rounds before, the round after which m more come isn't barred.
abbrev pub GoesOn : List Corner → List (List Picture) → ℕ → Type 0
GoesOn corners sources m = (round : List Picture) (done : List Plan) (r : Refusal) → lasts (before_last m sources) ≡ map (λ p. Some p) round
    → AreMerged corners None (before_last (suc m) sources) done → ¬ IsBarred corners None (map parts_of round) done r

-- A picture of a sublayer that there may be, with a slice of its first subpicture.
pub record HasSlices (p : Picture) : Type 0 where
  pub tid : p.kind.temporal_id ≤ 6
  pub some : 0 < length (inputs_of p 0)

-- Streams that are read as these pictures, n of each, none of whose rounds is barred.
pub record CanBeTried (R : Readers) (corners : List Corner) (count : ℕ) (streams : List (List ℕ)) (sources : List (List Picture)) : Type 0 where
  pub read : AllZip (λ stream ps. AreSourcePictures R stream ps None) streams sources
  pub same : length corners ≡ length sources
  pub many : AllByRecursion (λ ps. length ps ≡ count) sources
  pub slices : AllByRecursion (AllByRecursion HasSlices) sources
  pub goes : (m : ℕ) → m < count → GoesOn corners sources m

-- These bytes are written of all rounds.
pub record IsMergeOf (corners : List Corner) (sources : List (List Picture)) (bytes : List ℕ) : Type 0 where
  pub done : List Plan
  pub rounds : AreMerged corners None sources done
  pub written : bytes ≡ written (units_written done)

-- ---- a merge that goes on

-- A round of these pictures is written after others, and a merger went from one state to another.
pub record IsWrittenOn (round : List Parts) (done : List Plan) (old new : Merging) (bytes bytes' : List ℕ) : Type 0 where
  pub plan : Plan
  pub passes : Passes old.corners old.level round done plan
  pub more : bytes' ≡ bytes ++ written (units_of plan)
  pub stands : Stands new (plan ∷ done)

-- The rounds before the last m are written, and those are to come.
pub record HasMerged (R : Readers) (m : ℕ) (sources : List (List Picture)) (feeds : List Feeding) (x : Merging) (bytes : List ℕ) : Type 0 where
  pub level : x.level ≡ None
  pub same : length x.corners ≡ length sources
  pub goes : (n : ℕ) → n < m → GoesOn x.corners sources n
  pub waits : AllZip (Waits R m) feeds sources
  pub done : List Plan
  pub stands : Stands x done
  pub rounds : AreMerged x.corners None (before_last m sources) done
  pub written : bytes ≡ written (units_written done)

-- One more is to come.
pub record MayMerge (R : Readers) (feeds : List Feeding) (x : Merging) (bytes : List ℕ) : Type 0 where
  pub left : ℕ
  pub sources : List (List Picture)
  pub merged : HasMerged R (suc left) sources feeds x bytes
