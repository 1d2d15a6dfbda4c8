-- Which status `run` returns: what follows from the clause `ends` of `run`. Our own.
use Rattle.std.specs.Prelude.{◌≡◌, ◌≢◌, ◌↔◌, ◌⊎◌, ℕ, ◌<◌, List, length, Option, None, Ok}
use Rattle.vx_pic.specs.H266.{AreOfH266}
use Rattle.vx_pic.specs.Rules.{Readers}
use Rattle.vx_pic.specs.Written.{Plan}
use Rattle.vx_frame.specs.declared.corner.Corner.{Corner}
use Rattle.vx_verify.specs.declared.spot.Spot.{Spot}
use Rattle.vx_run.specs.Change.{Change, Sources, source_at, HasFault}
use Rattle.vx_run.specs.Extract.{IsExtractable, WhereTold, task_of}
use Rattle.vx_run.specs.Grammar.{Command, show, extract, check_extract, merge, play, check_merge, verify, trial, help, version, explain, AskFor, IsUnderstood, NamesFiles}
use Rattle.vx_run.specs.Merge.{EndsWritten, corners_of}
use Rattle.vx_run.specs.Play.{EndsPlayed, file_regions, most_files, region_corners}
use Rattle.vx_run.specs.Rounds.{Stream, OfEachSource, WhereAllTold, most_sources}
use Rattle.vx_run.specs.Run.{Runs}
use Rattle.vx_run.specs.Show.{WhereKnown}
use Rattle.vx_run.specs.Verify.{EndsVerified, spots_of}

-- ---- arguments that are not understood

-- Status 2 comes if and only if the arguments are not understood.
abbrev pub Status2IsExact : (A K E : Type 0) → Type 0
Status2IsExact A K E =
    (words : List (List ℕ)) (sources : Sources A) (out : Change K) (status : ℕ) (err : Change E) → Runs words sources out status err
    → (status ≡ 2) ↔ ¬ IsUnderstood words

-- ---- more than there may be

-- More files are placed than there may be; or more regions, for `play`.
abbrev pub PlacesTooMany : Command → Type 0
PlacesTooMany (merge level placings) = most_sources < length placings
PlacesTooMany (check_merge placings) = most_sources < length placings
PlacesTooMany (verify finished placings) = most_sources < length placings
PlacesTooMany (play level placings) = (most_sources < length (region_corners placings)) ⊎ (most_files < length placings)
PlacesTooMany _ = ⊥

-- That is refused, lack of memory apart.
abbrev pub TooManyAreRefused : (A K E : Type 0) → Type 0
TooManyAreRefused A K E =
    (words : List (List ℕ)) (sources : Sources A) (out : Change K) (status : ℕ) (err : Change E) → Runs words sources out status err
    → (command : Command) → AskFor words command → PlacesTooMany command → status ≢ 4 → status ≡ 1

-- ---- all others

-- All rounds can be written.
abbrev pub IsWritable : List Corner → Option ℕ → List Stream → Type 0
IsWritable corners level ss = (done : List Plan) × EndsWritten corners level ss done (Ok tt)

-- All rounds can be played.
abbrev pub IsPlayable : List Corner → Option ℕ → List ℕ → List Stream → Type 0
IsPlayable corners level regions files = (done : List Plan) × EndsPlayed corners level regions files done (Ok tt)

-- All streams end well with equally many pictures. In each round the finished picture has a subpicture for each source and no other: at
-- its place, and with the decoding inputs of the source's picture, which has one subpicture.
abbrev pub IsVerifiedMerge : List Spot → List Stream → Type 0
IsVerifiedMerge spots ss = (n : ℕ) × EndsVerified spots ss n (Ok tt)

-- 0 if and only if this is so, and otherwise 1.
pub record IsZeroWhere (P : Type 0) (status : ℕ) : Type 0 where
  pub done : (status ≡ 0) ↔ P
  pub refused : (status ≡ 1) ↔ ¬ P

-- This holds for the readers of H.266.
abbrev pub ByReaders : (Readers → Type 0) → Type 0
ByReaders P = (R : Readers) → AreOfH266 R → P R

-- The status of a command whose sources have known bytes. It is 0 if the stream breaks no rule, the subpicture can be extracted, all
-- rounds can be written or played, or are verified; otherwise it is 1. For commands without sources it is 0.
abbrev pub HasStatus : {A : Type 0} → Command → Sources A → ℕ → Type 0
HasStatus (show fields inputs file) sources status =
    ByReaders (λ R. WhereKnown R (source_at sources 0) (λ b units ending. IsZeroWhere (ending ≡ None) status))
HasStatus (extract tid level index file) sources status =
    ByReaders (λ R. WhereTold R (source_at sources 0) (λ ps ending. IsZeroWhere (IsExtractable (task_of tid level index) ps ending) status))
HasStatus (check_extract tid index file) sources status =
    ByReaders (λ R. WhereTold R (source_at sources 0) (λ ps ending. IsZeroWhere (IsExtractable (task_of tid None index) ps ending) status))
HasStatus (merge level placings) sources status =
    ByReaders (λ R. WhereAllTold R sources (λ ss. IsZeroWhere (IsWritable (corners_of placings) level ss) status))
HasStatus (check_merge placings) sources status =
    ByReaders (λ R. WhereAllTold R sources (λ ss. IsZeroWhere (IsWritable (corners_of placings) None ss) status))
HasStatus (play level placings) sources status =
    ByReaders (λ R. WhereAllTold R sources (λ files. IsZeroWhere (IsPlayable (region_corners placings) level (file_regions placings) files) status))
HasStatus (verify finished placings) sources status =
    ByReaders (λ R. WhereAllTold R sources (λ ss. IsZeroWhere (IsVerifiedMerge (spots_of placings) ss) status))
HasStatus (trial seed streams pictures) sources status = status ≡ 0
HasStatus help sources status = status ≡ 0
HasStatus version sources status = status ≡ 0
HasStatus (explain word) sources status = status ≡ 0

-- No read of a source failed, and no write to `out`.
pub record HaveNoFault {A K : Type 0} (sources : Sources A) (out : Change K) : Type 0 where
  pub reads : OfEachSource sources (λ source. ¬ HasFault source)
  pub writes : ¬ HasFault out

-- That is so, faults and lack of memory apart.
abbrev pub StatusIsExact : (A K E : Type 0) → Type 0
StatusIsExact A K E =
    (words : List (List ℕ)) (sources : Sources A) (out : Change K) (status : ℕ) (err : Change E) → Runs words sources out status err
    → NamesFiles words (length sources.old) → (command : Command) → AskFor words command → ¬ PlacesTooMany command
    → HaveNoFault sources out → status ≢ 4 → HasStatus command sources status
