-- The steps of `extract` and `check extract`: the pictures that were taken, and what was written of them. Our own.
use Rattle.std.specs.Prelude.{◌≡◌, ℕ, ◌+◌, ◌<◌, ◌≤◌, nat_le, cond, Bool, true, false, List, ◌∷◌, length, map, Option, Some, None, Result, Ok, Err, OnOk, IfErr}
use Rattle.std.specs.List.{AllByRecursion}
use Rattle.std.specs.Io.KnownBytes.{Consumes, IsAtEnd}
use Rattle.vx_bits.specs.declared.refusal.Refusal.TheVariants.{Extract}
use Rattle.vx_bits.specs.declared.rules.TheConstants.{NO_PICTURE}
use Rattle.vx_annexb.specs.ByteStream.{UnitPlace}
use Rattle.vx_annexb.specs.Laws.{written}
use Rattle.vx_annexb.specs.Reading.{LastWasNeeded}
use Rattle.vx_pic.specs.Readings.{Reading, Picture, pictures}
use Rattle.vx_sps.specs.Subpictures.{subpics_of}
use Rattle.vx_pic.specs.Rules.{Readers}
use Rattle.vx_pic.specs.Streams.{pictures_of}
use Rattle.vx_pic.specs.Sublayers.{at_most}
use Rattle.vx_pic.specs.Parts.{Parts, parts_of}
use Rattle.vx_pic.specs.Written.{Plan}
use Rattle.vx_pic.specs.Resident.{units_written}
use Rattle.vx_assemble.specs.Feed.{Feeding, EndsAtEnd, HasFed, IsNearEnd}
use Rattle.vx_extract.specs.Extracting.{Extracting, Stands, HasSlice, WritesPicture}
use Rattle.vx_extract.specs.Rules.{refusal_of}
use Rattle.vx_extract.specs.Written.{AreExtracted}
use Rattle.vx_run.specs.declared.stop.Place.TheVariants as places
use Rattle.vx_run.specs.declared.extract.Task.{Task}
use Rattle.vx_run.specs.declared.stop.Stop.{Stop}
use Rattle.vx_run.specs.declared.stop.Stop.TheVariants.{Refused, ReadFault, NoMemory}
use Rattle.vx_run.specs.Change.{Change, HasNoFault, HasFault, GivesFront, Gains}
use Rattle.vx_run.specs.Conclusion.{Outcome}
use Rattle.vx_run.specs.ReadAgain.{IsReadAgain}
use Rattle.vx_run.specs.Extract.{BreakNoRule, ExtractsBy, IsExtractable, RefusesExtraction, HasSeen, WhereTold}
use Rattle.vx_run.specs.inner.Stopping.{ComesOf}

-- These pictures of a source were taken, the latest first.
pub record HasTaken {A : Type 0} (R : Readers) (source : Change A) (f : Feeding) (ps : List Picture) : Type 0 where
  pub given : List ℕ
  pub units : List UnitPlace
  pub readings : List Reading
  pub kept : HasNoFault source
  pub gave : Consumes (source.bytes source.old) (source.bytes source.new) given
  pub fed : HasFed R f given units readings
  pub needed : LastWasNeeded given units
  pub done : pictures readings ≡ ps
  pub ended : EndsAtEnd f (source.bytes source.new)

-- One more was taken, which the last unit completed.
pub record HasTakenOne {A : Type 0} (R : Readers) (source : Change A) (f : Feeding) (ps : List Picture) : Type 0 where
  pub picture : Picture
  pub taken : HasTaken R source f (picture ∷ ps)
  pub last : Reading
  pub earlier : List Reading
  pub latest : taken.readings ≡ last ∷ earlier
  pub others : pictures earlier ≡ ps
  pub near : IsNearEnd taken.given taken.units

-- The extractor does this task.
pub record IsTask (t : Task) (x : Extracting) : Type 0 where
  pub target : x.target ≡ t.target
  pub level : x.level ≡ t.level
  pub tid : x.tid ≡ t.tid

-- The task that an extractor has.
abbrev pub task_held : Extracting → Task
task_held x = record { target = x.target; level = x.level; tid = x.tid }

-- ---- one step

-- What happened to a picture after those that are written so, and after n pictures in all, with a sink of these bytes and this count.
abbrev pub ExtractsOne : Picture → List Plan → Extracting → Option (List ℕ) → Option (List ℕ) → ℕ → ℕ → ℕ → Outcome → Type 0
ExtractsOne p done x bytes bytes' faults faults' n outcome = ComesOf (WritesPicture (parts_of p) done x bytes bytes' faults faults') n outcome

abbrev pub ChecksOne : Parts → Extracting → ℕ → Outcome → Type 0
ChecksOne q x n (Ok _) = refusal_of x.target x.tid q ≡ None
ChecksOne q x n (Err (Refused r place)) = (refusal_of x.target x.tid q ≡ Some r) × (place ≡ places.Picture n)
ChecksOne q x n (Err _) = ⊥

-- The check of the picture that was taken last, and whether it is kept.
abbrev pub ChecksLatest : (tid : ℕ) → Parts → Extracting → ℕ → Result Bool Stop → Type 0
ChecksLatest tid q x n (Ok kept) = ChecksOne q x n (Ok tt) × (kept ≡ nat_le q.kind.temporal_id tid)
ChecksLatest tid q x n (Err stop) = ChecksOne q x n (Err stop)

-- ---- step by step

-- Each picture of units has a slice of each of its subpictures.
abbrev pub HaveSlices : Readers → Type 0
HaveSlices R = (units : List (List ℕ))
    → AllByRecursion (λ p. (k : ℕ) → k < subpics_of p.begun.sps → HasSlice k (parts_of p)) (pictures_of R units)

-- What is written of taken pictures that break no rule is read again.
abbrev pub TakenIsReadAgain : Readers → Task → Type 0
TakenIsReadAgain R t =
    (g : List ℕ) (units : List UnitPlace) (readings : List Reading) (f : Feeding) → HasFed R f g units readings
    → BreakNoRule t (pictures readings)
    → (done : List Plan) → AreExtracted t.target t.level (map parts_of (at_most t.tid (pictures readings))) done
    → IsReadAgain R t (pictures readings) (written (units_written done))

-- n pictures were taken, and this is written of those that are kept.
pub record HasExtracted {A K : Type 0} (R : Readers) (t : Task) (source : Change A) (out : Change K) (f : Feeding) (x : Extracting) (n : ℕ)
    : Type 0 where
  pub ps : List Picture
  pub taken : HasTaken R source f ps
  pub rules : BreakNoRule t ps
  pub count : n ≡ length ps
  pub done : List Plan
  pub stands : Stands x done
  pub plans : AreExtracted t.target t.level (map parts_of (at_most t.tid ps)) done
  pub gained : Gains out (written (units_written done))
  pub again : IsReadAgain R t ps (written (units_written done))

-- What happened to the next picture after n pictures. It was written or left out; or there is none, and `extract` ends, with the refusal
-- of a stream without pictures if n is 0; or `extract` is stopped.
abbrev pub ExtractsNext : {A K : Type 0} → Readers → Task → Change A → Change K → Feeding → Feeding → Extracting → ℕ
    → Result Bool Stop → Type 0
ExtractsNext R t source out f f' x n (Ok true) = HasExtracted R t source out f' x (n + 1) × (n < f'.units) × (f.units < f'.units)
ExtractsNext R t source out f f' x n (Ok false) = (outcome : Outcome) → OnOk outcome (0 < n)
    → IfErr outcome (λ stop. (n ≡ 0) × (stop ≡ Refused (Extract NO_PICTURE) (places.Picture 0))) → ExtractsBy R t source out outcome
ExtractsNext R t source out f f' x n (Err stop) = ExtractsBy R t source out (Err stop)

-- n pictures were taken, and k of them are kept.
pub record HasChecked {A : Type 0} (R : Readers) (t : Task) (source : Change A) (f : Feeding) (n k : ℕ) : Type 0 where
  pub ps : List Picture
  pub taken : HasTaken R source f ps
  pub rules : BreakNoRule t ps
  pub count : n ≡ length ps
  pub kept : k ≡ length (at_most t.tid ps)

-- How many pictures are kept, or why `check extract` stops before it writes.
abbrev pub CountsBy : {A : Type 0} → Readers → Task → Change A → Result ℕ Stop → Type 0
CountsBy R t source (Ok k) =
    HasNoFault source × GivesFront source × IsAtEnd (source.bytes source.new)
    × WhereTold R source (λ ps ending. IsExtractable t ps ending × (k ≡ length (at_most t.tid ps)))
CountsBy R t source (Err (Refused r place)) =
    HasNoFault source × GivesFront source
    × WhereTold R source (λ ps ending. (before : List Picture) × RefusesExtraction R t source ps ending before r place)
CountsBy R t source (Err (ReadFault k)) = HasFault source × (k ≡ 0) × ((ps : List Picture) × HasSeen R t source ps)
CountsBy R t source (Err NoMemory) = HasNoFault source × GivesFront source
CountsBy R t source (Err _) = ⊥

-- What happened to the next picture after n, of which k are kept. It breaks no rule, and is kept or not; or there is none, and k are
-- kept, or the stream is refused for having no picture; or `check extract` is stopped.
abbrev pub ChecksNext : {A : Type 0} → Readers → Task → Change A → Feeding → Feeding → (n k : ℕ) → Result (Option Bool) Stop → Type 0
ChecksNext R t source f f' n k (Ok (Some kept)) =
    HasChecked R t source f' (n + 1) (cond kept (k + 1) k) × (n < f'.units) × (k ≤ n) × (f.units < f'.units)
ChecksNext R t source f f' n k (Ok None) =
    (0 < n → CountsBy R t source (Ok k)) × (n ≡ 0 → CountsBy R t source (Err (Refused (Extract NO_PICTURE) (places.Picture 0))))
ChecksNext R t source f f' n k (Err stop) = CountsBy R t source (Err stop)
