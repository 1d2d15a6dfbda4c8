-- The steps of commands over several sources: the pictures that were taken of each source. Lists of pictures have the latest first.
-- Our own.
use Rattle.std.specs.Prelude.{◌≡◌, ◌⊎◌, ℕ, ◌<◌, ◌≤◌, Bool, true, false, List, [], ◌∷◌, length, map, get_or, slice_get}
use Rattle.std.specs.Prelude.{Option, Some, None, Result, Ok, Err}
use Rattle.vx_annexb.specs.ByteStream.{UnitPlace}
use Rattle.vx_annexb.specs.Reading.{LastWasNeeded}
use Rattle.vx_pic.specs.Readings.{Reading, Picture, pictures}
use Rattle.vx_pic.specs.Rules.{Readers}
use Rattle.vx_pic.specs.Bytes.{Ending}
use Rattle.vx_pic.specs.Parts.{parts_of}
use Rattle.vx_assemble.specs.declared.feed.FeedFault.TheVariants as feed
use Rattle.vx_assemble.specs.declared.feed.Step.TheVariants as steps
use Rattle.vx_assemble.specs.Held.{HasPicture, ShowsLatest, lent_by}
use Rattle.vx_assemble.specs.Feed.{Feeding, IsOpen, HasFed, Advances}
use Rattle.vx_fit.specs.Lowest.{IsLowest}
use Rattle.vx_merge.specs.declared.ended.Lengths.TheVariants as lengths
use Rattle.vx_merge.specs.declared.ended.Lengths.TheVariants.{AllGo, Differ}
use Rattle.vx_merge.specs.Ends.{IsLengths}
use Rattle.vx_run.specs.declared.stop.Place.TheVariants as places
use Rattle.vx_run.specs.declared.stop.Stop.{Stop}
use Rattle.vx_run.specs.declared.stop.Stop.TheVariants.{Refused, ReadFault, NoMemory}
use Rattle.vx_run.specs.Change.{Change, Sources, source_at, IsUntouched, HasFault}
use Rattle.vx_run.specs.Conclusion.{Outcome}
use Rattle.vx_run.specs.Extract.{WhereTold, BeginsWithPictures}
use Rattle.vx_run.specs.Rounds.{Stream, GoesOn, HasEnded, OfStream, IsRefusedStream, NoneRefused, stream_refused, WhereAllTold, OfEachSource}
use Rattle.vx_run.specs.Rounds.{IsRead, IsReadOut, IsReadInRound, OthersAreRead, AreReadToSource, Sees}
use Rattle.vx_run.specs.inner.Extracting.{HasTaken, HasTakenOne}

-- This holds of each element.
abbrev pub OfAll : {A : Type 0} → (ℕ → A → Type 0) → List A → Type 0
OfAll {A} P xs = (k : ℕ) (x : A) → slice_get xs k ≡ Some x → P k x

-- A feed that was given nothing.
pub record IsUnfed (f : Feeding) : Type 0 where
  pub fed : (R : Readers) → HasFed R f [] [] []
  pub needed : LastWasNeeded [] []
  pub open_ : IsOpen f

-- ---- one source

-- Source k, with these bytes left and this count of faults before and after, was advanced to its next picture or its end; or the command
-- is stopped.
abbrev pub AdvancesOf : ℕ → Readers → List ℕ → List UnitPlace → List Reading → Feeding
    → Option (List ℕ) → Option (List ℕ) → ℕ → ℕ → Result Bool Stop → Type 0
AdvancesOf k R g units readings f left left' faults faults' (Ok true) = Advances R g units readings f left left' faults faults' (Ok steps.Picture)
AdvancesOf k R g units readings f left left' faults faults' (Ok false) = Advances R g units readings f left left' faults faults' (Ok steps.End)
AdvancesOf k R g units readings f left left' faults faults' (Err (Refused r place)) =
    Advances R g units readings f left left' faults faults' (Err (feed.Refused r)) × (place ≡ places.Unit k f.units)
AdvancesOf k R g units readings f left left' faults faults' (Err (ReadFault j)) =
    Advances R g units readings f left left' faults faults' (Err feed.SourceFailed) × (j ≡ k)
AdvancesOf k R g units readings f left left' faults faults' (Err NoMemory) =
    Advances R g units readings f left left' faults faults' (Err feed.Memory)
AdvancesOf k R g units readings f left left' faults faults' (Err _) = ⊥

-- A feed lends the picture that was taken last.
pub record LendsLatest (f : Feeding) : Type 0 where
  pub holds : HasPicture f.assembler
  pub shows : (R : Readers) (g : List ℕ) (units : List UnitPlace) (readings : List Reading) → HasFed R f g units readings
      → ShowsLatest (lent_by f.assembler) (pictures readings)

-- These pictures were taken, and no more was read than for them; nothing was done if there are none.
abbrev pub Waits : {A : Type 0} → Readers → Change A → Feeding → List Picture → Type 0
Waits R c f [] = HasTaken R c f [] × IsUntouched c
Waits R c f (p ∷ ps) = (one : HasTakenOne R c f ps) × (one.picture ≡ p)

-- One more was taken after them, and is lent.
pub record TakesOne {A : Type 0} (R : Readers) (c : Change A) (f : Feeding) (ps : List Picture) : Type 0 where
  pub holds : HasPicture f.assembler
  pub one : HasTakenOne R c f ps
  pub lent : lent_by f.assembler ≡ parts_of one.picture

-- The source has ended after them.
pub record EndsBehind {A : Type 0} (R : Readers) (c : Change A) (ps : List Picture) : Type 0 where
  pub read : IsReadOut c
  pub told : WhereTold R c (λ qs ending. (qs ≡ ps) × (ending ≡ None))

abbrev pub Came : {A : Type 0} → Readers → Change A → Feeding → List Picture → Bool → Type 0
Came R c f ps false = TakesOne R c f ps
Came R c f ps true = EndsBehind R c ps

-- ---- all sources

-- This holds of source k, its feed, and its pictures.
abbrev pub OfFed : (ℕ → Feeding → List Picture → Type 0) → List Feeding → List (List Picture) → Type 0
OfFed P feeds taken = (k : ℕ) (f : Feeding) (ps : List Picture) → slice_get feeds k ≡ Some f → slice_get taken k ≡ Some ps → P k f ps

-- n pictures of each source were taken.
pub record AreWaiting {A : Type 0} (R : Readers) (sources : Sources A) (feeds : List Feeding) (taken : List (List Picture)) (n : ℕ)
    : Type 0 where
  pub feeds_count : length feeds ≡ length sources.old
  pub taken_count : length taken ≡ length sources.old
  pub rounds : OfAll (λ k ps. length ps ≡ n) taken
  pub waits : OfFed (λ k f ps. Waits R (source_at sources k) f ps) feeds taken

-- The first k of them were advanced.
pub record AreAdvancing {A : Type 0} (R : Readers) (sources : Sources A) (feeds : List Feeding) (taken : List (List Picture)) (n : ℕ)
    (ended : List Bool) (k : ℕ) : Type 0 where
  pub feeds_count : length feeds ≡ length sources.old
  pub taken_count : length taken ≡ length sources.old
  pub rounds : OfAll (λ j ps. length ps ≡ n) taken
  pub came : OfFed (λ j f ps. j < k → Came R (source_at sources j) f ps (get_or ended j false)) feeds taken
  pub waits : OfFed (λ j f ps. k ≤ j → Waits R (source_at sources j) f ps) feeds taken

-- The streams of these pictures, which may go on.
abbrev pub so_far : List (List Picture) → List Stream
so_far taken = map (λ ps. record { pictures = ps; ending = None }) taken

-- Each stream begins with these pictures.
abbrev pub Begin : List Stream → List (List Picture) → Type 0
Begin ss taken = (k : ℕ) (s : Stream) (ps : List Picture) → slice_get ss k ≡ Some s → slice_get taken k ≡ Some ps → BeginsWithPictures s.pictures ps

-- One more picture of each was taken.
pub record AllTake {A : Type 0} (R : Readers) (sources : Sources A) (feeds : List Feeding) (taken : List (List Picture)) (n : ℕ) : Type 0 where
  pub feeds_count : length feeds ≡ length sources.old
  pub taken_count : length taken ≡ length sources.old
  pub rounds : OfAll (λ k ps. length ps ≡ n) taken
  pub each : OfFed (λ k f ps. TakesOne R (source_at sources k) f ps) feeds taken

-- All have ended.
pub record AllEnd {A : Type 0} (R : Readers) (sources : Sources A) (taken : List (List Picture)) (n : ℕ) : Type 0 where
  pub taken_count : length taken ≡ length sources.old
  pub rounds : OfAll (λ k ps. length ps ≡ n) taken
  pub each : OfAll (λ k ps. EndsBehind R (source_at sources k) ps) taken

-- ---- what stops the command

-- The first stream that is refused in round n is reported.
pub record IsFirstRefused (ss : List Stream) (n : ℕ) (stop : Stop) : Type 0 where
  pub k : ℕ
  pub ending : Ending
  pub of : OfStream ss k (IsRefusedStream n ending)
  pub none : NoneRefused k ss n
  pub is : stop ≡ stream_refused k ending

-- What stops it at a source, after n rounds of these pictures,
abbrev pub HaltsAtSource : {A : Type 0} → Readers → Sources A → List (List Picture) → ℕ → Stop → Type 0
HaltsAtSource R sources taken n (Refused r place) =
    AreReadToSource R n place sources × WhereAllTold R sources (λ ss. Begin ss taken × IsFirstRefused ss n (Refused r place))
HaltsAtSource R sources taken n (ReadFault k) =
    (k < length sources.old) × HasFault (source_at sources k) × Sees R (source_at sources k) n × OthersAreRead R n k sources
    × WhereAllTold R sources (λ ss. Begin ss taken × NoneRefused k ss n)
HaltsAtSource R sources taken n NoMemory = OfEachSource sources IsRead × WhereAllTold R sources (λ ss. Begin ss taken)
HaltsAtSource R sources taken n _ = ⊥

-- Stream k is the lowest that has ended after n pictures, and another one goes on.
pub record EndsFirst (ss : List Stream) (n k : ℕ) : Type 0 where
  pub none : NoneRefused (length ss) ss n
  pub lowest : IsLowest (length ss) (λ j. OfStream ss j (HasEnded n)) k
  pub goes : (j : ℕ) × OfStream ss j (GoesOn n)

-- or for their lengths, of which it reports this.
pub record HaltsByLength {A : Type 0} (of_length : ℕ → ℕ → Stop) (R : Readers) (sources : Sources A) (taken : List (List Picture)) (n : ℕ)
    (stop : Stop) : Type 0 where
  pub k : ℕ
  pub is : stop ≡ of_length n k
  pub read : OfEachSource sources (IsReadInRound R n)
  pub told : WhereAllTold R sources (λ ss. Begin ss taken × EndsFirst ss n k)

-- Each source was advanced after n rounds, and these have ended; or the command is stopped.
abbrev pub AdvancesEach : {A : Type 0} → Readers → Sources A → List Feeding → List (List Picture) → ℕ → List Bool → Outcome → Type 0
AdvancesEach R sources feeds taken n ended (Ok _) = AreAdvancing R sources feeds taken n ended (length sources.old)
AdvancesEach R sources feeds taken n ended (Err stop) = HaltsAtSource R sources taken n stop

-- None has ended, all have, or else it is stopped.
abbrev pub GoesBy : (ℕ → ℕ → Stop) → List Bool → ℕ → Result Bool Stop → Type 0
GoesBy of_length ended n (Ok true) = IsLengths ended AllGo
GoesBy of_length ended n (Ok false) = IsLengths ended lengths.AllEnded
GoesBy of_length ended n (Err stop) = (k : ℕ) × IsLengths ended (Differ k) × (stop ≡ of_length n k)

-- All were advanced: one more picture of each was taken; or all have ended; or the command is stopped.
abbrev pub AdvancesAll : {A : Type 0} → (ℕ → ℕ → Stop) → Readers → Sources A → List Feeding → List (List Picture) → ℕ → Result Bool Stop → Type 0
AdvancesAll of_length R sources feeds taken n (Ok true) = AllTake R sources feeds taken n
AdvancesAll of_length R sources feeds taken n (Ok false) = AllEnd R sources taken n
AdvancesAll of_length R sources feeds taken n (Err stop) = HaltsAtSource R sources taken n stop ⊎ HaltsByLength of_length R sources taken n stop
