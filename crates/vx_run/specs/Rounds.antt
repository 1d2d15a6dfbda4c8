-- What commands over several sources find in their pictures, round by round. A round is one picture of each source. In a round the
-- sources are advanced in order; if none is refused and none has ended, the pictures of the round are judged. Our own.
use Rattle.std.specs.Prelude.{◌≡◌, ◌⊎◌, ℕ, ◌+◌, ◌<◌, ◌≤◌, List, length, map, reverse, slice_get}
use Rattle.std.specs.Prelude.{Option, Some, None, option_map, Ok, Err, IfErr}
use Rattle.std.specs.Io.KnownBytes.{Consumes, IsAtEnd}
use Rattle.vx_bits.specs.declared.refusal.Refusal.TheVariants.{Limit}
use Rattle.vx_bits.specs.declared.rules.TheConstants.{TOO_MANY_SOURCES}
use Rattle.vx_pic.specs.Readings.{Picture}
use Rattle.vx_pic.specs.Rules.{Readers}
use Rattle.vx_pic.specs.Bytes.{Ending, AreSourcePictures, AreSeenPictures}
use Rattle.vx_pic.specs.H266.{AreOfH266}
use Rattle.vx_pic.specs.Parts.{Parts, parts_of}
use Rattle.vx_run.specs.declared.stop.Place.{Place}
use Rattle.vx_run.specs.declared.stop.Place.TheVariants as places
use Rattle.vx_assemble.specs.Feed.{seen_of}
use Rattle.vx_fit.specs.Lowest.{IsLowest}
use Rattle.vx_run.specs.declared.stop.Stop.{Stop}
use Rattle.vx_run.specs.declared.stop.Stop.TheVariants.{Refused}
use Rattle.vx_run.specs.Change.{Change, Sources, source_at, IsUntouched, AreUntouched, HasNoFault, GivesFront}
use Rattle.vx_run.specs.Conclusion.{Outcome, IsOfCommand}
use Rattle.vx_run.specs.Extract.{StopsBehind, WhereTold}

-- ---- streams

-- The stream of a source's bytes: its pictures, the latest first, and its ending.
pub record Stream : Type 0 where
  pub pictures : List Picture
  pub ending : Option Ending

-- Picture n of the stream, from 0.
abbrev pub picture_in : ℕ → Stream → Option Picture
picture_in n s = slice_get (reverse s.pictures) n

-- After n pictures it goes on with another one; it has ended; or this is what ends it.
abbrev pub GoesOn : ℕ → Stream → Type 0
GoesOn n s = n < length s.pictures

abbrev pub HasEnded : ℕ → Stream → Type 0
HasEnded n s = (length s.pictures ≡ n) × (s.ending ≡ None)

abbrev pub IsRefusedStream : ℕ → Ending → Stream → Type 0
IsRefusedStream n e s = (length s.pictures ≡ n) × (s.ending ≡ Some e)

-- This holds of stream k, or of each of the first ones.
abbrev pub OfStream : List Stream → ℕ → (Stream → Type 0) → Type 0
OfStream ss k P = (s : Stream) × (slice_get ss k ≡ Some s) × P s

abbrev pub OfFirst : ℕ → List Stream → (Stream → Type 0) → Type 0
OfFirst k ss P = (j : ℕ) (s : Stream) → j < k → slice_get ss j ≡ Some s → P s

-- ---- rounds

-- Round n: picture n of each stream.
abbrev pub IsRound : List Stream → ℕ → List Parts → Type 0
IsRound ss n round = map (λ s. option_map parts_of (picture_in n s)) ss ≡ map (λ q. Some q) round

-- None of the first k streams is refused in round n.
abbrev pub NoneRefused : ℕ → List Stream → ℕ → Type 0
NoneRefused k ss n = OfFirst k ss (λ s. GoesOn n s ⊎ HasEnded n s)

-- ---- how a command ends

-- What is reported of stream k if this ends it.
abbrev pub stream_refused : ℕ → Ending → Stop
stream_refused k e = Refused e.refusal (places.Unit k e.units)

-- What a command reports if it stops in round n: of stream k, for what ends that; of stream k, if it has ended and another one hasn't;
-- and of a round.
pub record Telling : Type 1 where
  pub of_stream : ℕ → Ending → Stop
  pub of_length : ℕ → ℕ → Stop
  pub of_round : ℕ → List Parts → Stop → Type 0

-- What stops it in round n: the first stream that is refused there, for what ends it; otherwise, if one goes on, that the lowest of those
-- that have ended has ended; otherwise the round.
pub data StopsIn (t : Telling) (ss : List Stream) (n : ℕ) (stop : Stop) : Type 0 where
  by_stream : (k : ℕ) (e : Ending) → OfStream ss k (IsRefusedStream n e) → NoneRefused k ss n → stop ≡ t.of_stream k e → StopsIn t ss n stop
  by_length : (k : ℕ) → NoneRefused (length ss) ss n → IsLowest (length ss) (λ j. OfStream ss j (HasEnded n)) k
      → ((j : ℕ) × OfStream ss j (GoesOn n)) → stop ≡ t.of_length n k → StopsIn t ss n stop
  by_round : (round : List Parts) → IsRound ss n round → t.of_round n round stop → StopsIn t ss n stop

-- All streams have ended after n rounds.
abbrev pub AllEnded : List Stream → ℕ → Type 0
AllEnded ss n = OfFirst (length ss) ss (HasEnded n)

-- After n rounds all streams have ended, or the command is stopped.
abbrev pub EndsIn : Telling → List Stream → ℕ → Outcome → Type 0
EndsIn t ss n (Ok _) = AllEnded ss n
EndsIn t ss n (Err stop) = StopsIn t ss n stop

-- ---- sources

-- The bytes of each source are known, and these are their pictures and endings.
pub record AreTold {A : Type 0} (R : Readers) (sources : Sources A) (ss : List Stream) : Type 0 where
  pub count : length ss ≡ length sources.old
  pub each : (k : ℕ) (s : Stream) → slice_get ss k ≡ Some s
      → let c = source_at sources k in (b : List ℕ) × (c.bytes c.old ≡ Some b) × AreSourcePictures R b s.pictures s.ending

-- For sources with known bytes: this holds of their streams.
abbrev pub WhereAllTold : {A : Type 0} → Readers → Sources A → (List Stream → Type 0) → Type 0
WhereAllTold R sources P = (ss : List Stream) → AreTold R sources ss → P ss

-- This holds of each source.
abbrev pub OfEachSource : {A : Type 0} → Sources A → (Change (Option A) → Type 0) → Type 0
OfEachSource sources P = (k : ℕ) → k < length sources.old → P (source_at sources k)

-- No read failed, and a prefix of its bytes was given.
abbrev pub IsRead : {A : Type 0} → Change A → Type 0
IsRead c = HasNoFault c × GivesFront c

-- All of them were given.
abbrev pub IsReadOut : {A : Type 0} → Change A → Type 0
IsReadOut c = HasNoFault c × GivesFront c × IsAtEnd (c.bytes c.new)

-- It was read for its first m pictures, and no further. If m is 0, nothing was done to it. Otherwise it gave fewer bytes past the place
-- that shows the end of the last of them than a read asks for.
abbrev pub IsReadFor : {A : Type 0} → Readers → ℕ → Change A → Type 0
IsReadFor R m c =
    IsRead c
    × (((m ≡ 0) × IsUntouched c)
    ⊎ ((p : Picture) × (before : List Picture) × StopsBehind R c p before × (m ≡ length before + 1)))

-- It was read for round n: for n + 1 pictures; or to its end, if it has ended after n.
abbrev pub IsReadInRound : {A : Type 0} → Readers → ℕ → Change A → Type 0
IsReadInRound R n c =
    IsReadFor R (n + 1) c ⊎ (IsReadOut c × WhereTold R c (λ ps ending. HasEnded n (record { pictures = ps; ending = ending })))

-- If source k ends the command in round n, then the sources before it were read for that round, and later ones for the rounds before it.
abbrev pub OthersAreRead : {A : Type 0} → Readers → ℕ → ℕ → Sources A → Type 0
OthersAreRead R n k sources =
    (j : ℕ) → j < length sources.old → (j < k → IsReadInRound R n (source_at sources j)) × (k < j → IsReadFor R n (source_at sources j))

-- How far they were read if this place of source k is refused in round n.
pub record AreReadToSource {A : Type 0} (R : Readers) (n : ℕ) (place : Place) (sources : Sources A) : Type 0 where
  pub k : ℕ
  pub units : ℕ
  pub is : place ≡ places.Unit k units
  pub within : k < length sources.old
  pub read : IsRead (source_at sources k)
  pub others : OthersAreRead R n k sources

-- How far they were read if this place is refused in round n: the place is one of a source; or it is the round, and all were read for
-- that.
pub data AreReadTo {A : Type 0} (R : Readers) (n : ℕ) (place : Place) (sources : Sources A) : Type 0 where
  at_source : AreReadToSource R n place sources → AreReadTo R n place sources
  at_round : place ≡ places.Picture n → OfEachSource sources (IsReadInRound R n) → AreReadTo R n place sources

-- n pictures are complete in what it has given, however it goes on.
pub record Sees {A : Type 0} (R : Readers) (c : Change A) (n : ℕ) : Type 0 where
  pub given : List ℕ
  pub pictures : List Picture
  pub gave : Consumes (c.bytes c.old) (c.bytes c.new) given
  pub seen : AreSeenPictures R (seen_of given) pictures
  pub count : length pictures ≡ n

-- ---- how many

-- The most sources that arguments may name, and the refusal of more.
abbrev pub most_sources : ℕ
most_sources = 64

abbrev pub too_many : Outcome
too_many = Err (Refused (Limit TOO_MANY_SOURCES) places.Words)

-- If the arguments name more sources, nothing is read or written. Otherwise it is so by the readers of H.266. The arguments were
-- understood.
pub record OfAtMost {A K : Type 0} (count : ℕ) (sources : Sources A) (out : Change K) (outcome : Outcome) (by : Readers → Type 0) : Type 0 where
  pub stop : IfErr outcome IsOfCommand
  pub many : most_sources < count → (outcome ≡ too_many) × AreUntouched sources × IsUntouched out
  pub few : count ≤ most_sources → (R : Readers) → AreOfH266 R → by R
