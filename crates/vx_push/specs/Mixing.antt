-- A mixer, as its callers see it: by these definitions, and by the relation `HasMixed` between it, what was pushed of each source, and
-- the rounds that it merged. That relation begins with none of these; `Answers` says what it means. Our own.
use Rattle.std.specs.Prelude.{◌≡◌, ◌⊎◌, ℕ, ◌+◌, ◌<◌, false, List, [], ◌∷◌, length, slice_get, slice_set, Option, Some, None, Ok, Err}
use Rattle.vx_annexb.specs.Laws.{written}
use Rattle.vx_pic.specs.declared.kind.Kind.{Kind}
use Rattle.vx_pic.specs.Readings.{Picture as StreamPicture}
use Rattle.vx_pic.specs.Rules.{Readers}
use Rattle.vx_pic.specs.Bytes.{AreSourcePictures, AreSeenPictures}
use Rattle.vx_pic.specs.H266.{AreOfH266}
use Rattle.vx_pic.specs.Written.{Plan, units_of}
use Rattle.vx_assemble.specs.Feed.{seen_of}
use Rattle.vx_merge.specs.Merging.{Merging, Stands}
use Rattle.vx_run.specs.declared.stop.Stop.TheVariants.{Refused, NoMemory}
use Rattle.vx_run.specs.Conclusion.{Outcome}
use Rattle.vx_run.specs.Rounds.{Stream, NoneRefused}
use Rattle.vx_run.specs.Merge.{AreRoundsWritten, EndsWritten}
use Rattle.vx_push.specs.declared.intake.State.TheVariants.{Waits as AtWait, NoMemory as AtNoMemory}
use Rattle.vx_push.specs.declared.mixer.Mixed.{Mixed}
use Rattle.vx_push.specs.declared.mixer.Mixed.TheVariants.{Picture as ToPicture, Waits as ToWait, Ended as ToEnd, Stopped as ToStop}
use Rattle.vx_push.specs.Comes.{Intaking, Handed, taken_at_once, IsOpenedBy, ComesNext}

-- A mixer: an intake for each source; its merger; how many rounds it merged; the bytes and the kind of the last of them, until they are
-- taken; and how it ended.
pub record Mixing : Type 0 where
  pub intakes : List Intaking
  pub merger : Merging
  pub rounds : ℕ
  pub merged : List ℕ
  pub held : Option Kind
  pub end : Option Mixed

-- ---- what the streams can be, by what was pushed of them

-- Each stream is one that is opened so.
pub record AreOpenedBy (R : Readers) (given : List Handed) (ss : List Stream) : Type 0 where
  pub count : length ss ≡ length given
  pub each : (k : ℕ) (h : Handed) (s : Stream) → slice_get given k ≡ Some h → slice_get ss k ≡ Some s
      → (b : List ℕ) × IsOpenedBy h b × AreSourcePictures R b s.pictures s.ending

-- This holds whatever they are.
abbrev pub Whatever : Readers → List Handed → (List Stream → Type 0) → Type 0
Whatever R given P = (ss : List Stream) → AreOpenedBy R given ss → P ss

-- The first rounds are merged so,
abbrev pub AreMergedAsHanded : Readers → Merging → List Handed → List Plan → Type 0
AreMergedAsHanded R m given done = Whatever R given (λ ss. AreRoundsWritten m.corners m.level ss done)

-- and after them the merge ends so.
abbrev pub EndsMerged : Readers → Merging → List Handed → List Plan → Outcome → Type 0
EndsMerged R m given done end = Whatever R given (λ ss. EndsWritten m.corners m.level ss done end)

-- None of the first k streams is refused in the next round.
abbrev pub GoOnFirst : Readers → List Handed → List Plan → ℕ → Type 0
GoOnFirst R given done k = Whatever R given (λ ss. NoneRefused k ss (length done))

-- ---- the relation

-- An intake that advanced past n pictures, which were merged.
pub record HasComeBehind (R : Readers) (i : Intaking) (h : Handed) (n : ℕ) : Type 0 where
  pub pictures : List StreamPicture
  pub come : ComesNext R i h pictures i.state
  pub count : length pictures ≡ n

-- The mixer's end is the end of the merge after these rounds; or it had no memory, and these rounds are merged.
abbrev pub HasEndedBy : Readers → Merging → List Handed → List Plan → Mixed → Type 0
HasEndedBy R m given done ToEnd = EndsMerged R m given done (Ok tt)
HasEndedBy R m given done (ToStop (Refused r place)) = EndsMerged R m given done (Err (Refused r place))
HasEndedBy R m given done (ToStop NoMemory) = AreMergedAsHanded R m given done
HasEndedBy R m given done _ = ⊥

-- It holds what is written of this round.
pub record HoldsRound (m : Mixing) (p : Plan) : Type 0 where
  pub bytes : m.merged ≡ written (units_of p)
  pub kind : m.held ≡ Some p.kind

-- This was pushed of each source, and these rounds were merged, the latest first; it holds the latest, or that was taken.
pub record HasMixed (R : Readers) (m : Mixing) (given : List Handed) (done : List Plan) : Type 0 where
  pub sources : length given ≡ length m.intakes
  pub rounds : length done ≡ m.rounds
  pub merged : AreMergedAsHanded R m.merger given done
  pub stands : m.end ≡ None → Stands m.merger done
  pub come : (k : ℕ) (i : Intaking) (h : Handed) → slice_get m.intakes k ≡ Some i → slice_get given k ≡ Some h → HasComeBehind R i h m.rounds
  pub holds : (kind : Kind) → m.held ≡ Some kind → (p : Plan) × (before : List Plan) × (done ≡ p ∷ before) × HoldsRound m p
  pub ended : (end : Mixed) → m.end ≡ Some end → HasEndedBy R m.merger given done end

-- ---- what is returned

-- Source k isn't known further: n pictures are complete in what was pushed of it, however it goes on; and its end wasn't declared.
pub record IsAwaited (R : Readers) (given : List Handed) (n k : ℕ) : Type 0 where
  pub handed : Handed
  pub at : slice_get given k ≡ Some handed
  pub pictures : List StreamPicture
  pub seen : AreSeenPictures R (seen_of handed.bytes) pictures
  pub count : length pictures ≡ n
  pub open_ : handed.all ≡ false

-- What `next` returns after these rounds: one more is merged and held; source k is awaited, and none before it is refused in the next
-- round; or the merge has ended.
abbrev pub Answers : Readers → Mixing → List Handed → List Plan → Mixed → Type 0
Answers R m given done ToPicture = (p : Plan) × HasMixed R m given (p ∷ done) × HoldsRound m p
Answers R m given done (ToWait k) = HasMixed R m given done × IsAwaited R given (length done) k × GoOnFirst R given done k
Answers R m given done end = HasMixed R m given done × HasEndedBy R m.merger given done end × (m.end ≡ Some end)

-- ---- what is pushed

-- More was pushed of source k, by its intake, and nothing else was done. The rounds that were merged still are.
pub record HandsIn (old new : Mixing) (k : ℕ) (more : Intaking → Handed → Handed) : Type 0 where
  pub intake : Intaking
  pub at : slice_get old.intakes k ≡ Some intake
  pub later : Intaking
  pub only : new ≡ record old { intakes = slice_set old.intakes k later }
  pub mixed : (R : Readers) → AreOfH266 R → (given : List Handed) (done : List Plan) (h : Handed) → HasMixed R old given done
      → slice_get given k ≡ Some h → HasMixed R new (slice_set given k (more intake h)) done

-- How many of `count` bytes were taken: none if it doesn't wait, or has no memory for them.
abbrev pub Takes : Intaking → Intaking → ℕ → ℕ → Type 0
Takes old new count taken =
    (old.state ≡ AtWait → (taken ≡ taken_at_once old count) ⊎ ((taken ≡ 0) × (new.state ≡ AtNoMemory)))
    × ((old.state ≡ AtWait → ⊥) → (taken ≡ 0) × (new ≡ old))

-- ---- a merge

-- The outcome of a merge whose end a mixer has reached.
abbrev pub outcome_of : Mixed → Option Outcome
outcome_of ToEnd = Some (Ok tt)
outcome_of (ToStop (Refused r place)) = Some (Err (Refused r place))
outcome_of _ = None

-- If a mixer came to the end of the merge, then `merge` of such streams ends so too, after the same rounds. So it writes the bytes that
-- were merged, and reports the same.
abbrev pub MixedIsMerged : Type 0
MixedIsMerged =
    (R : Readers) (m : Mixing) (given : List Handed) (done : List Plan) (end : Mixed) (mine : Outcome) → HasMixed R m given done
    → m.end ≡ Some end → outcome_of end ≡ Some mine
    → (ss : List Stream) (other : List Plan) (outcome : Outcome) → 0 < length ss → AreOpenedBy R given ss
    → EndsWritten m.merger.corners m.merger.level ss other outcome → (other ≡ done) × (outcome ≡ mine)
