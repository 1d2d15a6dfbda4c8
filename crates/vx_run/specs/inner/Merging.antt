-- The steps of `merge` and `check merge`: the rounds that were checked or written. Our own.
use Rattle.std.specs.Prelude.{◌≡◌, ℕ, ◌+◌, ◌<◌, List, ◌∷◌, length}
use Rattle.std.specs.Prelude.{Option, Result, Ok, Err}
use Rattle.vx_pic.specs.Readings.{Picture}
use Rattle.vx_pic.specs.Rules.{Readers}
use Rattle.vx_pic.specs.Parts.{Parts}
use Rattle.vx_annexb.specs.Laws.{written}
use Rattle.vx_pic.specs.Written.{Plan, units_of}
use Rattle.vx_assemble.specs.Feed.{Feeding}
use Rattle.vx_write.specs.declared.fault.WriteError.{WriteError}
use Rattle.vx_frame.specs.declared.corner.Corner.{Corner}
use Rattle.vx_merge.specs.Merging.{Merging, Stands, ChecksRound, WritesOneRound}
use Rattle.vx_run.specs.declared.merge.Work.{Work}
use Rattle.vx_run.specs.declared.merge.Work.TheVariants.{Check, Write}
use Rattle.vx_run.specs.declared.stop.Stop.{Stop}
use Rattle.vx_run.specs.declared.stop.Stop.TheVariants.{Refused, ReadFault, WriteFault, NoMemory}
use Rattle.vx_run.specs.Change.{Change, Sources, source_at, IsUntouched, HasNoFault, HasFault, Gains}
use Rattle.vx_run.specs.Conclusion.{Outcome}
use Rattle.vx_run.specs.Rounds.{NoneRefused, OfEachSource, IsRead, IsReadOut, IsReadFor, OthersAreRead, AreReadTo, Sees, WhereAllTold}
use Rattle.vx_run.specs.Merge.{AreRoundsWritten, bytes_of, EndsWritten, GainsInto}
use Rattle.vx_run.specs.inner.Advancing.{AreWaiting, so_far}
use Rattle.vx_run.specs.inner.Stopping.{ComesOf}

-- ---- rounds

-- What `out` gained if these were checked, or written.
abbrev pub Leaves : {K : Type 0} → Work → Change K → List Plan → Type 0
Leaves Check out done = IsUntouched out
Leaves Write out done = Gains out (bytes_of done)

-- A check didn't touch `out`; a written round had no failed write.
abbrev pub Keeps : {K : Type 0} → Work → Change K → Type 0
Keeps Check out = IsUntouched out
Keeps Write out = HasNoFault out

-- How many rounds were checked or written, or what stopped that, and what it did to the sources and to `out`.
abbrev pub TakesRounds : {A K : Type 0} → Readers → Work → List Corner → Option ℕ → Sources A → Change K → Result ℕ Stop → Type 0
TakesRounds R work corners level sources out (Ok n) =
    OfEachSource sources IsReadOut × Keeps work out
    × WhereAllTold R sources (λ ss. (done : List Plan) × (length done ≡ n) × EndsWritten corners level ss done (Ok tt) × Leaves work out done)
TakesRounds R work corners level sources out (Err (Refused r place)) =
    (n : ℕ) × AreReadTo R n place sources × Keeps work out
    × WhereAllTold R sources (λ ss. (done : List Plan) × (length done ≡ n) × EndsWritten corners level ss done (Err (Refused r place))
    × Leaves work out done)
TakesRounds R work corners level sources out (Err (ReadFault k)) =
    (k < length sources.old) × HasFault (source_at sources k) × Keeps work out
    × ((n : ℕ) × Sees R (source_at sources k) n × OthersAreRead R n k sources
    × WhereAllTold R sources (λ ss. (done : List Plan) × (length done ≡ n) × AreRoundsWritten corners level ss done × NoneRefused k ss n
    × Leaves work out done))
TakesRounds R work corners level sources out (Err WriteFault) =
    (work ≡ Write)
    × ((n : ℕ) × OfEachSource sources (IsReadFor R (n + 1)) × HasFault out
    × WhereAllTold R sources (λ ss. (done : List Plan) × (p : Plan) × (length done ≡ n) × AreRoundsWritten corners level ss (p ∷ done)
    × GainsInto out (bytes_of done) (written (units_of p))))
TakesRounds R work corners level sources out (Err NoMemory) =
    OfEachSource sources IsRead × Keeps work out
    × WhereAllTold R sources (λ ss. (done : List Plan) × AreRoundsWritten corners level ss done × Leaves work out done)
TakesRounds R work corners level sources out (Err _) = ⊥

-- The outcome of a command whose rounds were taken so.
abbrev pub outcome_of : Result ℕ Stop → Outcome
outcome_of (Ok n) = Ok tt
outcome_of (Err stop) = Err stop

-- A round of these pictures was checked or written, after the earlier ones.
abbrev pub DoesRound : {K : Type 0} → Work → List Parts → List Plan → Merging → Change K → Result (Unit {0}) WriteError → Type 0
DoesRound Check round done m out answer = IsUntouched out × ChecksRound round done m answer
DoesRound Write round done m out answer =
    WritesOneRound round done m (out.bytes out.old) (out.bytes out.new) (out.faults out.old) (out.faults out.new) answer

-- Round n was checked or written, with this outcome.
abbrev pub TakesRound : {K : Type 0} → Work → List Parts → List Plan → Merging → Change K → ℕ → Outcome → Type 0
TakesRound work round done m out n outcome = ComesOf (DoesRound work round done m out) n outcome

-- The merger has checked or written n rounds of these pictures.
pub record HasWritten {K : Type 0} (work : Work) (corners : List Corner) (level : Option ℕ) (out : Change K) (m : Merging)
    (taken : List (List Picture)) (n : ℕ) : Type 0 where
  pub done : List Plan
  pub count : length done ≡ n
  pub stands : Stands m done
  pub plans : AreRoundsWritten corners level (so_far taken) done
  pub leaves : Leaves work out done

pub record HasDone {A K : Type 0} (R : Readers) (work : Work) (corners : List Corner) (level : Option ℕ) (sources : Sources A) (out : Change K)
    (feeds : List Feeding) (m : Merging) (n : ℕ) : Type 0 where
  pub taken : List (List Picture)
  pub waiting : AreWaiting R sources feeds taken n
  pub done : HasWritten work corners level out m taken n
