-- What is written for the rounds of several streams is read again, as one picture for each round. Our own.
use Rattle.std.specs.List.{AllByRecursion}
use Rattle.std.specs.Prelude.{◌≡◌, ℕ, List, [], ◌∷◌, drop, length, map, slice_get, Option, Some}
use Rattle.vx_pic.specs.Alike.{AreAlike}
use Rattle.vx_pic.specs.H266.{AreOfH266}
use Rattle.vx_pic.specs.Parts.{parts_of}
use Rattle.vx_pic.specs.Readings.{Picture, messages_of}
use Rattle.vx_pic.specs.Resident.{AllReadAgain, AreAllPlanned, planned_of}
use Rattle.vx_pic.specs.Rules.{Readers}
use Rattle.vx_pic.specs.Written.{Plan}
use Rattle.vx_frame.specs.declared.corner.Corner.{Corner}
use Rattle.vx_frame.specs.Corners.{AreCorners}
use Rattle.vx_merge.specs.Merging.{Passes}
use Rattle.vx_again.specs.Sources.{CanBeMerged}

-- ---- rounds

-- The last picture of each of several streams, and those before it.
abbrev pub lasts : List (List Picture) → List (Option Picture)
lasts sources = map (λ ps. slice_get ps 0) sources

abbrev pub earlier : List (List Picture) → List (List Picture)
earlier sources = map (λ ps. drop 1 ps) sources

-- Their rounds are written as these plans, the latest first: each stream has as many pictures.
abbrev pub AreMerged : List Corner → Option ℕ → List (List Picture) → List Plan → Type 0
AreMerged corners level sources [] = AllByRecursion (λ ps. ps ≡ []) sources
AreMerged corners level sources (p ∷ done) =
    ((round : List Picture) × (lasts sources ≡ map (λ q. Some q) round) × Passes corners level (map parts_of round) done p)
    × AreMerged corners level (earlier sources) done

-- ---- laws

-- Streams that can be merged, in regions with these corners, are written as these plans.
pub record AreWrittenSo (R : Readers) (corners : List Corner) (level : Option ℕ) (sources : List (List Picture)) (done : List Plan) : Type 0 where
  pub are : AreCorners corners
  pub same : length corners ≡ length sources
  pub can : AllByRecursion (CanBeMerged R) sources
  pub merged : AreMerged corners level sources done

-- The plans are valid, and their pictures have the kinds of those of each stream, with headers that agree in all that counts depend on.
abbrev pub MergedArePlanned : Type 0
MergedArePlanned =
    (R : Readers) (corners : List Corner) (level : Option ℕ) (sources : List (List Picture)) (done : List Plan) → AreOfH266 R
    → AreWrittenSo R corners level sources done
    → AreAllPlanned R done × AllByRecursion (λ ps. AreAlike ps (planned_of done)) sources

-- So their units are read, and the pictures are those that were written, all whole.
abbrev pub MergedReadsAgain : Type 0
MergedReadsAgain =
    (R : Readers) (corners : List Corner) (level : Option ℕ) (sources : List (List Picture)) (done : List Plan) → AreOfH266 R
    → AreWrittenSo R corners level sources done → AllReadAgain R done

-- They have the messages of source 0.
abbrev pub MergedKeepsMessages : Type 0
MergedKeepsMessages =
    (corners : List Corner) (level : Option ℕ) (sources : List (List Picture)) (done : List Plan) (ps : List Picture)
    → AreMerged corners level sources done → slice_get sources 0 ≡ Some ps → map messages_of (planned_of done) ≡ map messages_of ps
