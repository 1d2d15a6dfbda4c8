-- The steps of a mixer: the states of its intakes in a round, and what is merged of it. Our own.
use Rattle.std.specs.Prelude.{◌≡◌, ◌⊎◌, ℕ, ◌+◌, ◌<◌, ◌≤◌, Bool, true, false, List, [], ◌∷◌, ◌++◌, length, map, get_or, slice_get, Option, Some, None, Result, Ok, Err}
use Rattle.vx_annexb.specs.Laws.{written}
use Rattle.vx_pic.specs.declared.kind.Kind.{Kind}
use Rattle.vx_pic.specs.Readings.{Picture as StreamPicture}
use Rattle.vx_pic.specs.Rules.{Readers}
use Rattle.vx_pic.specs.H266.{AreOfH266}
use Rattle.vx_pic.specs.Parts.{Parts, parts_of}
use Rattle.vx_pic.specs.Written.{Plan, units_of}
use Rattle.vx_assemble.specs.Held.{lent_by}
use Rattle.vx_merge.specs.declared.ended.Lengths.TheVariants.{AllGo, AllEnded as AllEnd, Differ}
use Rattle.vx_merge.specs.Ends.{IsLengths}
use Rattle.vx_merge.specs.Merging.{Merging, Stands, Passes, IsBarred}
use Rattle.vx_run.specs.declared.stop.Place.TheVariants as places
use Rattle.vx_run.specs.declared.stop.Stop.{Stop}
use Rattle.vx_run.specs.declared.stop.Stop.TheVariants.{Refused, NoMemory}
use Rattle.vx_run.specs.Rounds.{Stream, picture_in, HasEnded, IsRefusedStream}
use Rattle.vx_run.specs.Merge.{length_refused}
use Rattle.vx_run.specs.inner.Stopping.{stop_of_write}
use Rattle.vx_write.specs.declared.fault.WriteError.{WriteError}
use Rattle.vx_write.specs.declared.fault.WriteError.TheVariants.{SinkFailed}
use Rattle.vx_push.specs.declared.intake.State.{State}
use Rattle.vx_push.specs.declared.intake.State.TheVariants.{Waits as AtWait, Picture as AtPicture, Ended as AtEnd, Refused as AtRefusal, NoMemory as AtNoMemory}
use Rattle.vx_push.specs.declared.mixer.Mixed.{Mixed}
use Rattle.vx_push.specs.declared.mixer.Mixed.TheVariants.{Waits as ToWait, Ended as ToEnd, Stopped as ToStop}
use Rattle.vx_push.specs.Comes.{Intaking, Handed, HasCome, nothing}
use Rattle.vx_push.specs.inner.Comes.{IsMore}
use Rattle.vx_push.specs.Mixing.{HasComeBehind}

-- ---- one source

-- What an intake in this state, after n pictures that were merged, means for its stream.
abbrev pub IsSo : State → Intaking → ℕ → Stream → Type 0
IsSo AtWait i n s = Unit {0}
IsSo AtPicture i n s = (p : StreamPicture) × (picture_in n s ≡ Some p) × (lent_by i.feed.assembler ≡ parts_of p)
IsSo AtEnd i n s = HasEnded n s
IsSo (AtRefusal r units) i n s = IsRefusedStream n (record { units = units; refusal = r }) s
IsSo AtNoMemory i n s = Unit {0}

-- ---- all sources, in order

-- It has ended, or holds a picture.
abbrev pub mark_of : Bool → State
mark_of true = AtEnd
mark_of false = AtPicture

-- The first k of them do, as they are marked.
abbrev pub AreMarked : List Intaking → List Bool → ℕ → Type 0
AreMarked intakes marks k = (j : ℕ) (i : Intaking) → j < k → slice_get intakes j ≡ Some i → i.state ≡ mark_of (get_or marks j false)

-- The k-th keeps a round from being merged: it waits, or is stopped.
abbrev pub HaltsBy : State → ℕ → Mixed → Type 0
HaltsBy AtWait k answer = answer ≡ ToWait k
HaltsBy (AtRefusal r units) k answer = answer ≡ ToStop (Refused r (places.Unit k units))
HaltsBy AtNoMemory k answer = answer ≡ ToStop NoMemory
HaltsBy _ k answer = ⊥

-- It is the first that does.
pub record HaltsFirst (intakes : List Intaking) (answer : Mixed) : Type 0 where
  pub k : ℕ
  pub intake : Intaking
  pub at : slice_get intakes k ≡ Some intake
  pub halts : HaltsBy intake.state k answer
  pub marks : List Bool
  pub before : AreMarked intakes marks k

-- The states of the intakes, as they are all marked.
pub record AreSeen (intakes : List Intaking) (marks : List Bool) : Type 0 where
  pub count : length marks ≡ length intakes
  pub marked : AreMarked intakes marks (length intakes)

-- None keeps round n from being merged: all have ended; or some have, and others not.
abbrev pub EndsSo : List Bool → ℕ → Mixed → Type 0
EndsSo marks n ToEnd = IsLengths marks AllEnd
EndsSo marks n (ToStop stop) = (k : ℕ) × IsLengths marks (Differ k) × (stop ≡ length_refused n k)
EndsSo marks n _ = ⊥

-- What is seen of them in round n: each lends a picture; or this keeps it from being merged.
abbrev pub Looks : List Intaking → ℕ → Result (Unit {0}) Mixed → Type 0
Looks intakes n (Ok _) = (marks : List Bool) × AreSeen intakes marks × IsLengths marks AllGo
Looks intakes n (Err answer) = HaltsFirst intakes answer ⊎ ((marks : List Bool) × AreSeen intakes marks × EndsSo marks n answer)

-- The pictures that they lend.
abbrev pub round_of : List Intaking → List Parts
round_of intakes = map (λ i. lent_by i.feed.assembler) intakes

-- Intakes to which nothing was pushed.
abbrev pub AreNew : List Intaking → Type 0
AreNew intakes = (k : ℕ) (i : Intaking) → slice_get intakes k ≡ Some i → (i.state ≡ AtWait) × ((R : Readers) → HasCome R i nothing [])

-- ---- a round

-- What stops a mixer if round n isn't merged: a sink in memory fails only for lack of it.
abbrev pub stop_by : WriteError → ℕ → Stop
stop_by SinkFailed n = NoMemory
stop_by error n = stop_of_write error n

-- The result of round n of these pictures, after others: it is merged so, as a picture of this kind; or barred; or there was no memory.
abbrev pub MergesHanded : List Parts → List Plan → Merging → List ℕ → ℕ → Result Kind Stop → Type 0
MergesHanded round done m bytes n (Ok kind) =
    (p : Plan) × Passes m.corners m.level round done p × (bytes ≡ written (units_of p)) × Stands m (p ∷ done) × (kind ≡ p.kind)
MergesHanded round done m bytes n (Err (Refused r place)) = IsBarred m.corners m.level round done r × (place ≡ places.Picture n)
MergesHanded round done m bytes n (Err NoMemory) = Unit {0}
MergesHanded round done m bytes n (Err _) = ⊥

-- A result is kept if it is an end.
abbrev pub end_by : Mixed → Option Mixed
end_by ToEnd = Some ToEnd
end_by (ToStop stop) = Some (ToStop stop)
end_by _ = None

-- ---- what goes on

-- More was pushed of each, or of some.
pub record AreMore (given more : List Handed) : Type 0 where
  pub count : length more ≡ length given
  pub each : (k : ℕ) (h : Handed) → slice_get given k ≡ Some h → (later : Handed) × (slice_get more k ≡ Some later) × IsMore h later

-- An intake that lent a picture has advanced past it.
abbrev pub HasPassed : Intaking → Intaking → Type 0
HasPassed i later = (R : Readers) → AreOfH266 R → (h : Handed) (n : ℕ) → HasComeBehind R i h n → HasComeBehind R later h (n + 1)

-- The first k of those that did have, and the others are as they were.
pub record ArePassing (intakes later : List Intaking) (k : ℕ) : Type 0 where
  pub count : length later ≡ length intakes
  pub passed : (j : ℕ) (i : Intaking) → j < k → slice_get intakes j ≡ Some i → i.state ≡ AtPicture → (l : Intaking) × (slice_get later j ≡ Some l) × HasPassed i l
  pub same : (j : ℕ) → k ≤ j → slice_get later j ≡ slice_get intakes j

-- Each has.
pub record HavePassed (intakes later : List Intaking) : Type 0 where
  pub count : length later ≡ length intakes
  pub each : (k : ℕ) (i : Intaking) → slice_get intakes k ≡ Some i → i.state ≡ AtPicture → (j : Intaking) × (slice_get later k ≡ Some j) × HasPassed i j
