-- What an intake keeps to, and its steps. Lists of pictures have the latest first. Our own.
use Rattle.std.specs.Prelude.{◌≡◌, ℕ, ◌+◌, ◌^◌, ◌≤◌, cond, Bool, true, false, List, [], ◌∷◌, ◌++◌, length, Option, Some, None}
use Rattle.vx_annexb.specs.ByteStream.{UnitPlace}
use Rattle.vx_annexb.specs.Held.{IsSought}
use Rattle.vx_annexb.specs.Reading.{HasRead}
use Rattle.vx_annexb.specs.declared.unit_reader.Closed.{Closed}
use Rattle.vx_annexb.specs.declared.unit_reader.Closed.TheVariants as closed
use Rattle.vx_bits.specs.declared.refusal.Refusal.{Refusal}
use Rattle.vx_pic.specs.Readings.{Reading, Picture, pictures}
use Rattle.vx_pic.specs.Rules.{Readers}
use Rattle.vx_pic.specs.H266.{AreOfH266}
use Rattle.vx_pic.specs.Streams.{read_on, all_read}
use Rattle.vx_pic.specs.Bytes.{units_at, ArePictures, AreSeenPictures}
use Rattle.vx_pic.specs.declared.accepted.Accepted.TheVariants as accepted
use Rattle.vx_assemble.specs.declared.feed.Taken.{Taken}
use Rattle.vx_assemble.specs.declared.feed.Taken.TheVariants.{Nal, End}
use Rattle.vx_assemble.specs.declared.feed.FeedFault.{FeedFault}
use Rattle.vx_assemble.specs.declared.feed.FeedFault.TheVariants as faults
use Rattle.vx_assemble.specs.Held.{HasPicture, ShowsLatest, lent_by}
use Rattle.vx_assemble.specs.Feed.{Feeding, HasFed, IsOpen, IsRefusedFor, bytes_held, most_held, seen_of}
use Rattle.vx_run.specs.Extract.{BeginsWithPictures}
use Rattle.vx_push.specs.Handed.{Handed, OfEachStream, zeros}
use Rattle.vx_push.specs.declared.intake.State.{State}
use Rattle.vx_push.specs.declared.intake.State.TheVariants as states

-- An intake: its feed, its state, and whether zeros, or the end, were declared after the picture that it lends.
pub record Intaking : Type 0 where
  pub feed : Feeding
  pub state : State
  pub flushed : Bool
  pub ended : Bool

abbrev pub intaking : Feeding → State → (flushed ended : Bool) → Intaking
intaking f state flushed ended = record { feed = f; state = state; flushed = flushed; ended = ended }

-- ---- what is pushed

-- The zeros that its feed was not given yet.
abbrev pub zeros_if : Bool → List ℕ
zeros_if flushed = cond flushed zeros []

-- What was pushed and not given to its feed: such zeros; nothing if it was given the end; and anything if it has more bytes than a source
-- may have.
abbrev pub Owes : Option Closed → Bool → Bool → List ℕ → Type 0
Owes None flushed ended owed = owed ≡ zeros_if flushed
Owes (Some closed.End) flushed ended owed = (owed ≡ []) × (ended ≡ true)
Owes (Some closed.TooLong) flushed ended owed = Unit {0}
Owes (Some closed.Failed) flushed ended owed = Unit {0}

-- More was pushed, or the end.
pub record IsMore (h more : Handed) : Type 0 where
  pub piece : List ℕ
  pub bytes : more.bytes ≡ h.bytes ++ piece
  pub all : h.all ≡ true → (more.all ≡ true) × (piece ≡ [])

-- Its feed was given these bytes, and took the units of these pictures.
pub record HasTaken (R : Readers) (f : Feeding) (g : List ℕ) (ps : List Picture) : Type 0 where
  pub places : List UnitPlace
  pub before : List Reading
  pub fed : HasFed R f g places before
  pub done : pictures before ≡ ps

-- It was given what was pushed, up to what is owed.
pub record IsGoing (R : Readers) (i : Intaking) (h : Handed) (ps : List Picture) : Type 0 where
  pub given : List ℕ
  pub owed : List ℕ
  pub taken : HasTaken R i.feed given ps
  pub bytes : h.bytes ≡ given ++ owed
  pub owes : Owes i.feed.reader.closed i.flushed i.ended owed
  pub all : h.all ≡ i.ended

-- If it goes on.
abbrev pub IsFedBy : Readers → Intaking → Handed → List Picture → State → Type 0
IsFedBy R i h ps states.Waits = IsGoing R i h ps
IsFedBy R i h ps states.Picture = IsGoing R i h ps
IsFedBy R i h ps state = Unit {0}

-- If it waits, its feed may be given more.
pub record IsWaiting (i : Intaking) : Type 0 where
  pub open_ : IsOpen i.feed
  pub sought : IsSought i.feed.reader.splitter
  pub unflushed : i.flushed ≡ false
  pub unended : i.ended ≡ false

abbrev pub IsReady : Intaking → State → Type 0
IsReady i states.Waits = IsWaiting i
IsReady i states.Picture = HasPicture i.feed.assembler × (i.feed.units ≤ 2 ^ 40)
IsReady i state = Unit {0}

-- What it keeps to.
pub record IsInStep (i : Intaking) : Type 0 where
  pub ready : IsReady i i.state
  pub bytes : bytes_held i.feed ≤ most_held

-- ---- between its steps

-- The state after these pictures, while it may yet wait for what is owed.
abbrev pub StepsBehind : Readers → Intaking → Handed → List Picture → State → Type 0
StepsBehind R i h ps states.Waits = (g : IsGoing R i h ps) × AreSeenPictures R (seen_of g.given) ps
StepsBehind R i h ps states.Picture = (p : Picture) × IsGoing R i h (p ∷ ps) × ShowsLatest (lent_by i.feed.assembler) (p ∷ ps)
StepsBehind R i h ps states.Ended = OfEachStream R h (λ qs ending. (qs ≡ ps) × (ending ≡ None)) × (h.all ≡ true)
StepsBehind R i h ps (states.Refused r n) =
    OfEachStream R h (λ qs ending. (qs ≡ ps) × (ending ≡ Some (record { units = n; refusal = r })))
StepsBehind R i h ps states.NoMemory = OfEachStream R h (λ qs ending. BeginsWithPictures qs ps)

-- ---- what a feed finds in the bytes that it was given

-- It is refused for this after the units of these pictures.
pub record IsStopped (R : Readers) (f : Feeding) (g : List ℕ) (ps : List Picture) (r : Refusal) (n : ℕ) : Type 0 where
  pub places : List UnitPlace
  pub before : List Reading
  pub done : pictures before ≡ ps
  pub were : read_on R [] (units_at (seen_of g) places) ≡ all_read before
  pub count : n ≡ length places
  pub refused : IsRefusedFor R f.reader g places before r
  pub more : List UnitPlace
  pub read : HasRead f.reader g (places ++ more)

-- After these pictures: no further one is complete; one more is done, and none before it; or the bytes end, or are refused.
abbrev pub SeeksTo : Readers → List ℕ → List Picture → Feeding → State → Type 0
SeeksTo R g ps f states.Waits = HasTaken R f g ps × AreSeenPictures R (seen_of g) ps
SeeksTo R g ps f states.Picture = (p : Picture) × HasTaken R f g (p ∷ ps) × ShowsLatest (lent_by f.assembler) (p ∷ ps)
SeeksTo R g ps f states.Ended = HasTaken R f g ps × ArePictures R (seen_of g) true ps None × (f.reader.closed ≡ Some closed.End)
SeeksTo R g ps f (states.Refused r n) = IsStopped R f g ps r n
SeeksTo R g ps f states.NoMemory = Unit {0}

-- The state after a unit, or a unit was taken that completes no picture.
abbrev pub StepsTo : Readers → List ℕ → List Picture → Feeding → Option State → Type 0
StepsTo R g ps f None = HasTaken R f g ps
StepsTo R g ps f (Some state) = SeeksTo R g ps f state

-- Its feed may be given more, or lends a picture.
abbrev pub IsLeftAs : Feeding → State → Type 0
IsLeftAs f states.Waits = IsOpen f × IsSought f.reader.splitter
IsLeftAs f states.Picture = HasPicture f.assembler
IsLeftAs f state = Unit {0}

-- A feed that began to seek the next picture as `old` still seeks it.
pub record StillSeeks (old f : Feeding) : Type 0 where
  pub seeks : (R : Readers) → AreOfH266 R → (g : List ℕ) (ps : List Picture) → HasTaken R old g ps → HasTaken R f g ps
  pub closed : f.reader.closed ≡ old.reader.closed
  pub units : old.units ≤ f.units

-- The state after what it took,
abbrev pub state_by : Taken → Option State
state_by End = Some states.Ended
state_by (Nal header place bytes accepted.PictureDone) = Some states.Picture
state_by (Nal header place bytes what) = None

-- or if it took nothing, after n units.
abbrev pub stopped_by : FeedFault → ℕ → State
stopped_by (faults.Refused r) n = states.Refused r n
stopped_by fault n = states.NoMemory
