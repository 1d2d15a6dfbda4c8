-- The sets and slices of the pictures of units: sets that were read, and for each subpicture the slices of its layout. Our own.
-- Extraction relies on it.
use Rattle.std.specs.Prelude.{◌≡◌, ℕ, ◌<◌, ◌==◌, List, length, map, filter, Ok}
use Rattle.std.specs.List.{AllByRecursion, range_with_len}
use Rattle.vx_layout.specs.Layouts.{slices_in}
use Rattle.vx_pic.specs.Sets.{address_of}
use Rattle.vx_pic.specs.Readings.{Begun, Slice, Picture}
use Rattle.vx_pic.specs.Rules.{Readers}
use Rattle.vx_pic.specs.Streams.{pictures_of}
use Rattle.vx_pic.specs.H266.{AreOfH266}
use Rattle.vx_pic.specs.Parts.{Parts, ShowsPicture, slice_part}

-- ---- sets

-- The sets in force for a header were read.
pub record HasSets (R : Readers) (b : Begun) : Type 0 where
  pub sps_rbsp : List ℕ
  pub sps : R.sps sps_rbsp ≡ Ok b.sps
  pub pps_rbsp : List ℕ
  pub pps : R.pps pps_rbsp ≡ Ok b.pps

-- Those of each picture of units were.
abbrev pub PicturesHaveSets : Type 0
PicturesHaveSets = (R : Readers) (units : List (List ℕ)) → AllByRecursion (λ p. HasSets R p.begun) (pictures_of R units)

-- ---- slices

-- The slices of subpicture k, in the order of the units.
abbrev pub subpic_slices : Picture → ℕ → List Slice
subpic_slices p k = filter (λ s. s.header.subpic == k) p.slices

-- Each subpicture has one.
abbrev pub HasEach : Picture → Type 0
HasEach p = (k : ℕ) → k < length p.begun.layout.subpics → 0 < length (subpic_slices p k)

-- Exactly those of its layout, in the order of their addresses 0, 1, .. (7.4.8, sh_slice_address).
abbrev pub HasAllInOrder : Picture → Type 0
HasAllInOrder p = (k : ℕ) → k < length p.begun.layout.subpics
    → map (λ s. address_of s.header) (subpic_slices p k) ≡ range_with_len 0 (length (slices_in p.begun.layout k))

-- So it is with each picture of units that are read as H.266 says.
abbrev pub SubpicturesHaveSlices : Type 0
SubpicturesHaveSlices = (R : Readers) (units : List (List ℕ)) → AreOfH266 R → AllByRecursion HasEach (pictures_of R units)

abbrev pub SubpicturesAreWhole : Type 0
SubpicturesAreWhole = (R : Readers) (units : List (List ℕ)) → AreOfH266 R → AllByRecursion HasAllInOrder (pictures_of R units)

-- In the model of a picture, the slices of subpicture k are those.
abbrev pub SlicesAreShown : Type 0
SlicesAreShown = (parts : Parts) (p : Picture) (k : ℕ) → ShowsPicture parts p
    → filter (λ s. s.header.subpic == k) parts.slices ≡ map (slice_part p.begun) (subpic_slices p k)
