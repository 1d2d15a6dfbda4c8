-- When a finished picture is the merge of its sources' pictures, and which mismatch there is if it isn't. Files are numbered: file 0 is
-- the finished stream, and file k + 1 is source k. Our own.
use Rattle.std.specs.Prelude.{◌≡◌, ◌≢◌, ◌⊎◌, ℕ, zero, suc, ◌*◌, ◌<◌, List, [], ◌∷◌, length, take, slice_get, Some}
use Rattle.vx_sps.specs.Set.{ctb_size_of}
use Rattle.vx_sps.specs.Subpictures.{subpics_of, rect_of}
use Rattle.vx_fit.specs.Lowest.{IsLowest}
use Rattle.vx_pic.specs.declared.compare.Difference.{Difference}
use Rattle.vx_pic.specs.Parts.{Parts}
use Rattle.vx_pic.specs.Inputs.{Input, inputs_in}
use Rattle.vx_pic.specs.Differences.{IsDifference}
use Rattle.vx_verify.specs.declared.spot.Spot.{Spot}
use Rattle.vx_verify.specs.declared.mismatch.Mismatch.{Mismatch}
use Rattle.vx_verify.specs.declared.mismatch.Mismatch.TheVariants as mismatches

-- ---- verified pictures

-- The upper left corner of subpicture k in luma samples (7.4.3.4).
abbrev pub corner_in : Parts → ℕ → Spot
corner_in q k = record { x = (rect_of q.sps k).x * ctb_size_of q.sps; y = (rect_of q.sps k).y * ctb_size_of q.sps }

-- Subpicture k of a finished picture is a source's picture at this place: the source's has one subpicture, with the decoding inputs of
-- that one. Its size is part of each input.
pub record IsRegion (finished : Parts) (k : ℕ) (spot : Spot) (q : Parts) : Type 0 where
  pub alone : subpics_of q.sps ≡ 1
  pub corner : corner_in finished k ≡ spot
  pub inputs : inputs_in finished k ≡ inputs_in q 0

-- A finished picture has a subpicture for each source and no others, in their order; and each source has a place.
pub record IsVerified (spots : List Spot) (finished : Parts) (round : List Parts) : Type 0 where
  pub places : length spots ≡ length round
  pub count : subpics_of finished.sps ≡ length round
  pub each : (k : ℕ) (spot : Spot) (q : Parts) → slice_get spots k ≡ Some spot → slice_get round k ≡ Some q → IsRegion finished k spot q

-- ---- checks of files

-- This holds of entry k of a list.
abbrev pub OfEntry : {A : Type 0} → List A → ℕ → (A → Type 0) → Type 0
OfEntry {A = A} xs k P = (x : A) × (slice_get xs k ≡ Some x) × P x

-- The files that fail a check: the finished stream if this is so of it, and source k if something doesn't hold of entry k.
abbrev pub Fails : {A : Type 0} → Type 0 → List A → (ℕ → A → Type 0) → ℕ → Type 0
Fails Finished xs Holds zero = Finished
Fails Finished xs Holds (suc k) = OfEntry xs k (λ x. ¬ Holds k x)

-- A check of files: file k fails it, and these are then the mismatches.
pub record Check : Type 1 where
  pub fails : ℕ → Type 0
  pub tells : ℕ → Mismatch → Type 0

-- The first of some checks of n files that one fails, with the lowest one, and its mismatch.
abbrev pub IsFirst : ℕ → List Check → Mismatch → Type 0
IsFirst n [] m = ⊥
IsFirst n (c ∷ checks) m =
    (((k : ℕ) → k < n → ¬ c.fails k) × IsFirst n checks m)
    ⊎ ((k : ℕ) × IsLowest n c.fails k × c.tells k m)

-- C1: the finished picture has not as many subpictures as there are sources, or a source's has several.
abbrev pub IsAlone : ℕ → Parts → Type 0
IsAlone k q = subpics_of q.sps ≡ 1

abbrev pub count_check : Parts → List Parts → Check
count_check finished round = record {
  fails = Fails (subpics_of finished.sps ≢ length round) round IsAlone;
  tells = λ file m. m ≡ mismatches.Count file;
}

-- C2: subpicture k isn't at the place of source k.
abbrev pub StandsAtSpot : Parts → ℕ → Spot → Type 0
StandsAtSpot finished k spot = corner_in finished k ≡ spot

abbrev pub corner_check : List Spot → Parts → Check
corner_check spots finished = record {
  fails = Fails ⊥ spots (StandsAtSpot finished);
  tells = λ file m. m ≡ mismatches.Rect file;
}

-- C3: it has another number of slices than the source's picture.
abbrev pub HasAsMany : Parts → ℕ → Parts → Type 0
HasAsMany finished k q = length (inputs_in finished k) ≡ length (inputs_in q 0)

abbrev pub slice_check : Parts → List Parts → Check
slice_check finished round = record {
  fails = Fails ⊥ round (HasAsMany finished);
  tells = λ file m. m ≡ mismatches.Slices file;
}

-- C4: it has other decoding inputs. The mismatch has the slice that differs first, by its address, and where its input differs.
abbrev pub HasInputs : Parts → ℕ → Parts → Type 0
HasInputs finished k q = inputs_in finished k ≡ inputs_in q 0

-- Up to slice i both have the same inputs, and there they differ first in this.
pub record DiffersAt (inputs others : List Input) (i : ℕ) (d : Difference) : Type 0 where
  pub before : take i inputs ≡ take i others
  pub input : Input
  pub other : Input
  pub here : slice_get inputs i ≡ Some input
  pub there : slice_get others i ≡ Some other
  pub differ : IsDifference input other (Some d)

abbrev pub TellsInput : Parts → List Parts → ℕ → Mismatch → Type 0
TellsInput finished round zero m = ⊥
TellsInput finished round (suc k) m = OfEntry round k
    (λ q. (i : ℕ) × (d : Difference) × DiffersAt (inputs_in finished k) (inputs_in q 0) i d × (m ≡ mismatches.Input (suc k) i d))

abbrev pub input_check : Parts → List Parts → Check
input_check finished round = record {
  fails = Fails ⊥ round (HasInputs finished);
  tells = TellsInput finished round;
}

-- ---- the mismatch

-- The first check that a file fails, by its code, and the lowest such file.
abbrev pub IsMismatch : List Spot → Parts → List Parts → Mismatch → Type 0
IsMismatch spots finished round m =
    IsFirst (suc (length round)) (count_check finished round ∷ corner_check spots finished ∷ slice_check finished round ∷ input_check finished round ∷ []) m

-- A round that is verified has no mismatch.
abbrev pub VerifiedHasNone : Type 0
VerifiedHasNone = (spots : List Spot) (finished : Parts) (round : List Parts) (m : Mismatch)
    → IsVerified spots finished round → ¬ IsMismatch spots finished round m

-- A round that isn't verified has one mismatch.
abbrev pub MismatchIsOne : Type 0
MismatchIsOne = (spots : List Spot) (finished : Parts) (round : List Parts) (m other : Mismatch)
    → IsMismatch spots finished round m → IsMismatch spots finished round other → m ≡ other
