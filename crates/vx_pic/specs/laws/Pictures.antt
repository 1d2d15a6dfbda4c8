-- What follows from the definition of pictures, whatever sets and headers are read as.
use Rattle.std.specs.Prelude.{◌≡◌, ℕ, suc, ◌<◌, ◌≤◌, Bool, true, false, List, [], ◌∷◌, ◌++◌, length, take, drop, reverse, flat_map, All}
use Rattle.std.specs.Prelude.{slice_get, Option, Some, None}
use Rattle.vx_sei.specs.declared.message.Message.{Message}
use Rattle.vx_pic.specs.Readings.{Slice, Reading, messages_read, header_read, first_slice, next_slice, latest_given, sps_in, pps_in, aps_in}
use Rattle.vx_pic.specs.Readings.{gathered, Picture, is_slice, going, current}
use Rattle.vx_pic.specs.Counts.{is_tid0_picture, counts_of, no_counts, previous}
use Rattle.vx_pic.specs.Rules.{Readers}
use Rattle.vx_pic.specs.Streams.{read_on, unless_refused, pictures_of}
use Rattle.vx_pic.specs.Bytes.{Ending, ending_by, ArePictures, AreSeenPictures}
use Rattle.vx_pic.specs.Written.{PlanReadsAgain}
use Rattle.vx_annexb.specs.Laws.{CanStand, written}

-- ---- units

-- More units are read after those before them, unless one of these is refused.
abbrev pub ReadingGoesOn : Type 0
ReadingGoesOn = (R : Readers) (before : List Reading) (units more : List (List ℕ))
    → read_on R before (units ++ more)
    ≡ unless_refused (read_on R before units).refusal (read_on R before units).before (λ after. read_on R after more)

-- If units go on, then pictures that are done remain.
abbrev pub PicturesStay : Type 0
PicturesStay = (R : Readers) (units more : List (List ℕ))
    → (later : List Picture) × (pictures_of R (units ++ more) ≡ later ++ pictures_of R units)

-- If a plan is written where a stream can go on, then it is read again.
abbrev pub PlansReadAgain : Type 0
PlansReadAgain = (R : Readers) → PlanReadsAgain R

-- ---- bytes

-- The bytes determine pictures and ending.
abbrev pub PicturesAreUnique : Type 0
PicturesAreUnique = (R : Readers) (b : List ℕ) (all : Bool) (ps qs : List Picture) (e f : Option Ending)
    → ArePictures R b all ps e → ArePictures R b all qs f → (ps ≡ qs) × (e ≡ f)

-- All bytes have them.
abbrev pub PicturesExist : Type 0
PicturesExist = (R : Readers) (b : List ℕ) (all : Bool) → (ps : List Picture) × (e : Option Ending) × ArePictures R b all ps e

-- If bytes go on, then pictures that were seen remain.
abbrev pub SeenPicturesStay : Type 0
SeenPicturesStay = (R : Readers) (b more : List ℕ) (all : Bool) (ps qs : List Picture) (e : Option Ending)
    → AreSeenPictures R b ps → ArePictures R (b ++ more) all qs e → (later : List Picture) × (qs ≡ later ++ ps)

-- If units are written one after another, and can stand in a stream, then it has the pictures of the list of units.
abbrev pub WrittenHasPictures : Type 0
WrittenHasPictures = (R : Readers) (units : List (List ℕ)) → All CanStand units
    → ArePictures R (written units) true (pictures_of R units) (ending_by true None (read_on R [] units))

-- ---- places

-- The reading at a place gives this, and nothing later does. Lists have the latest at place 0.
pub record IsLatestAt {A : Type 0} (gives : Reading → Option A) (before : List Reading) (n : ℕ) (a : A) : Type 0 where
  pub reading : Reading
  pub here : slice_get before n ≡ Some reading
  pub given : gives reading ≡ Some a
  pub later : (k : ℕ) (r : Reading) → k < n → slice_get before k ≡ Some r → gives r ≡ None

-- What is in force is given by the last reading that gives it, and by no other.
abbrev pub IsByPlaces : {A : Type 0} → (Reading → Option A) → Type 0
IsByPlaces {A} gives = (before : List Reading) (a : A)
    → (latest_given gives before ≡ Some a → (n : ℕ) × IsLatestAt gives before n a)
    × ((n : ℕ) → IsLatestAt gives before n a → latest_given gives before ≡ Some a)

-- The SPS, the PPS and the adaptation parameter sets in force are those of the last units of their ids.
abbrev pub StoredByPlaces : Type 0
StoredByPlaces = ((id : ℕ) → IsByPlaces (sps_in id)) × ((id : ℕ) → IsByPlaces (pps_in id)) × ((kind id : ℕ) → IsByPlaces (aps_in kind id))

-- The picture at this place can be prevTid0Pic, and no later one can.
pub record IsPrevTid0At (earlier : List Picture) (n : ℕ) (p : Picture) : Type 0 where
  pub here : slice_get earlier n ≡ Some p
  pub can : is_tid0_picture p ≡ true
  pub later : (k : ℕ) (q : Picture) → k < n → slice_get earlier k ≡ Some q → is_tid0_picture q ≡ false

-- PrevPicOrderCntLsb and prevPicOrderCntMsb are those of that picture, and 0 if there is none.
abbrev pub PreviousByPlaces : Type 0
PreviousByPlaces =
    ((earlier : List Picture) (n : ℕ) (p : Picture) → IsPrevTid0At earlier n p → previous earlier ≡ counts_of p)
    × ((earlier : List Picture) → ((k : ℕ) (q : Picture) → slice_get earlier k ≡ Some q → is_tid0_picture q ≡ false)
    → previous earlier ≡ no_counts)

-- No slice is among the last n, and the one before these is a slice, if there is one.
pub record IsSinceSlice (before : List Reading) (n : ℕ) : Type 0 where
  pub within : n ≤ length before
  pub later : (k : ℕ) (r : Reading) → k < n → slice_get before k ≡ Some r → is_slice r ≡ false
  pub slice : (r : Reading) → slice_get before n ≡ Some r → is_slice r ≡ true

-- The messages of a unit, and the further slice that it is.
abbrev pub messages_in : Reading → List Message
messages_in (messages_read messages) = messages
messages_in _ = []

abbrev pub further_in : Reading → List Slice
further_in (next_slice s) = s ∷ []
further_in _ = []

-- Messages are gathered from the units since the last slice, in the order of the units.
abbrev pub GatheredByPlaces : Type 0
GatheredByPlaces = (before : List Reading)
    → ((n : ℕ) × IsSinceSlice before n)
    × ((n : ℕ) → IsSinceSlice before n → gathered before ≡ flat_map messages_in (reverse (take n before)))

-- A picture begins.
abbrev pub is_start : Reading → Bool
is_start (header_read b) = true
is_start (first_slice b k s) = true
is_start _ = false

-- The picture's first slice is at this place, and no other picture began later: its slices are that one and all further ones, in
-- the order of the units.
pub record IsPictureAt (before : List Reading) (n : ℕ) (p : Picture) : Type 0 where
  pub slice : Slice
  pub here : slice_get before n ≡ Some (first_slice p.begun p.kind slice)
  pub later : (k : ℕ) (r : Reading) → k < n → slice_get before k ≡ Some r → is_start r ≡ false
  pub earlier : p.before ≡ drop (suc n) before
  pub slices : p.slices ≡ slice ∷ flat_map further_in (reverse (take n before))

-- The picture that was begun last, if it has a slice, is that of the last first slice, after which no picture began.
abbrev pub CurrentByPlaces : Type 0
CurrentByPlaces = (before : List Reading) (p : Picture)
    → (current before ≡ going p → (n : ℕ) × IsPictureAt before n p)
    × ((n : ℕ) → IsPictureAt before n p → current before ≡ going p)
