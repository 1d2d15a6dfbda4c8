-- A trial: streams that are generated from a number are merged side by side, each region of the merge is extracted, and the result is
-- counted. Our own.
use Rattle.std.specs.Prelude.{◌≡◌, ℕ, ◌+◌, ◌*◌, ◌%◌, ◌^◌, List, [], ◌∷◌, ◌++◌, length, map, None}
use Rattle.std.specs.List.{AllZip, concat, range_with_len}
use Rattle.vx_annexb.specs.Laws.{written}
use Rattle.vx_pic.specs.Bytes.{AreSourcePictures}
use Rattle.vx_pic.specs.Parts.{parts_of}
use Rattle.vx_pic.specs.Readings.{Picture}
use Rattle.vx_pic.specs.Resident.{units_written}
use Rattle.vx_pic.specs.Rules.{Readers}
use Rattle.vx_pic.specs.Written.{Plan}
use Rattle.vx_extract.specs.Written.{IsExtraction}
use Rattle.vx_frame.specs.declared.corner.Corner.{Corner}
use Rattle.vx_again.specs.Streams.{AreMerged}
use Rattle.vx_again.specs.Whole.{IsReadAsMerge}
use Rattle.vx_gen.specs.Rounds.{corners}
use Rattle.vx_gen.specs.Streams.{generated}
use Rattle.vx_trial.specs.declared.tally.Tally.{Tally}

-- ---- the weight of bytes

-- The sum of bytes, each times its place in a list whose first place is given.
abbrev pub weighted : ℕ → List ℕ → ℕ
weighted place [] = 0
weighted place (b ∷ bytes) = place * b + weighted (place + 1) bytes

-- Places are counted from 1.
abbrev pub weight : List ℕ → ℕ
weight bytes = weighted 1 bytes % 2 ^ 32

-- ---- a trial

-- Streams are merged side by side into these bytes, which are read again as their merge; and of each region of it these bytes are extracted.
pub record IsTrial (R : Readers) (corners : List Corner) (streams : List (List ℕ)) (merged : List ℕ) (parts : List (List ℕ)) : Type 0 where
  pub sources : List (List Picture)
  pub read : AllZip (λ stream ps. AreSourcePictures R stream ps None) streams sources
  pub done : List Plan
  pub rounds : AreMerged corners None sources done
  pub written : merged ≡ written (units_written done)
  pub pictures : List Picture
  pub again : IsReadAsMerge R corners sources merged pictures
  pub extracted : AllZip (λ k bytes. IsExtraction k None (map parts_of pictures) bytes) (range_with_len 0 (length sources)) parts

-- The counts of the trial of `sources` streams of `pictures` pictures each.
pub record IsTally (R : Readers) (seed sources pictures : ℕ) (tally : Tally) : Type 0 where
  pub merged : List ℕ
  pub parts : List (List ℕ)
  pub is : IsTrial R (corners sources) (generated seed sources pictures) merged parts
  pub of_pictures : tally.pictures ≡ pictures
  pub slices : tally.slices ≡ sources * pictures
  pub bytes : tally.bytes ≡ length merged
  pub weight : tally.weight ≡ weight (merged ++ concat parts)
