-- What `merge` and `check merge` find in the rounds of several sources, and what they write. Our own.
use Rattle.std.specs.Prelude.{◌≡◌, ℕ, ◌+◌, ◌<◌, List, [], ◌∷◌, ◌++◌, length, map, Option, None, Ok, Err}
use Rattle.std.specs.List.{AllByRecursion}
use Rattle.std.specs.Io.{StartsWith}
use Rattle.std.specs.Io.KnownBytes.{Appends}
use Rattle.vx_bits.specs.declared.refusal.Refusal.{Refusal}
use Rattle.vx_bits.specs.declared.refusal.Refusal.TheVariants.{Merge}
use Rattle.vx_bits.specs.declared.rules.TheConstants.{LENGTH}
use Rattle.vx_annexb.specs.Laws.{written}
use Rattle.vx_pic.specs.H266.{AreOfH266}
use Rattle.vx_pic.specs.Readings.{Picture}
use Rattle.vx_pic.specs.Rules.{Readers}
use Rattle.vx_pic.specs.Parts.{Parts}
use Rattle.vx_pic.specs.Resident.{units_written}
use Rattle.vx_pic.specs.Written.{Plan, units_of}
use Rattle.vx_frame.specs.declared.corner.Corner.{Corner}
use Rattle.vx_frame.specs.Corners.{AreCorners}
use Rattle.vx_merge.specs.Merging.{Passes, IsBarred}
use Rattle.vx_run.specs.declared.stop.Place.TheVariants as places
use Rattle.vx_run.specs.declared.stop.Stop.{Stop}
use Rattle.vx_run.specs.declared.stop.Stop.TheVariants.{Refused, ReadFault, WriteFault, NoMemory}
use Rattle.vx_run.specs.Change.{Change, Sources, source_at, IsUntouched, HasNoFault, HasFault, Gains, GainsFront}
use Rattle.vx_run.specs.Conclusion.{Outcome}
use Rattle.vx_run.specs.Extract.{ok_text}
use Rattle.vx_run.specs.Grammar.{Placing}
use Rattle.vx_run.specs.MergeAgain.{IsMergedAgain, IsToldBy, first_pictures}
use Rattle.vx_run.specs.Rounds.{Stream, IsRound, NoneRefused, Telling, EndsIn, stream_refused, WhereAllTold, OfEachSource, OfAtMost}
use Rattle.vx_run.specs.Rounds.{IsRead, IsReadOut, IsReadFor, OthersAreRead, AreReadTo, Sees}

-- The corners of the regions in which arguments place files.
abbrev pub corner_of : Placing → Corner
corner_of p = record { x = p.x; y = p.y }

abbrev pub corners_of : List Placing → List Corner
corners_of placings = map corner_of placings

-- ---- rounds that are written

-- The first rounds, as many as plans, are there, break no rule, and are written so within all limits; the latest plan comes first.
abbrev pub AreRoundsWritten : List Corner → Option ℕ → List Stream → List Plan → Type 0
AreRoundsWritten corners level ss [] = Unit {0}
AreRoundsWritten corners level ss (p ∷ done) =
    ((round : List Parts) × IsRound ss (length done) round × Passes corners level round done p) × AreRoundsWritten corners level ss done

-- The bytes of these rounds.
abbrev pub bytes_of : List Plan → List ℕ
bytes_of done = written (units_written done)

-- Rounds that are written are read again as the merge of the pictures that they were made of.
abbrev pub WrittenIsReadAgain : Type 0
WrittenIsReadAgain =
    (R : Readers) (corners : List Corner) (level : Option ℕ) (ss : List Stream) (done : List Plan) → AreOfH266 R → AreCorners corners
    → length corners ≡ length ss → AllByRecursion (IsToldBy R) ss → AreRoundsWritten corners level ss done
    → IsMergedAgain R corners (map (first_pictures (length done)) ss) (bytes_of done)

-- ---- how a merge ends

-- Source k has ended after n rounds, and another one hasn't.
abbrev pub length_refused : ℕ → ℕ → Stop
length_refused n k = Refused (Merge LENGTH k 0) (places.Picture n)

-- What is reported after rounds that are written as these plans: what ends a stream; that it has ended; and what bars a round, by the
-- rules and the limits of what is written.
abbrev pub merge_telling : List Corner → Option ℕ → List Plan → Telling
merge_telling corners level done = record {
  of_stream = stream_refused;
  of_length = length_refused;
  of_round = λ n round stop. (r : Refusal) × IsBarred corners level round done r × (stop ≡ Refused r (places.Picture n));
}

-- The merge ends so after those rounds.
abbrev pub EndsWritten : List Corner → Option ℕ → List Stream → List Plan → Outcome → Type 0
EndsWritten corners level ss done end = AreRoundsWritten corners level ss done × EndsIn (merge_telling corners level done) ss (length done) end

-- A merge ends once: after the same rounds, which are written in one way.
abbrev pub EndsOnce : Type 0
EndsOnce = (corners : List Corner) (level : Option ℕ) (ss : List Stream) (done other : List Plan) (a b : Outcome)
    → 0 < length ss → EndsWritten corners level ss done a → EndsWritten corners level ss other b → (done ≡ other) × (a ≡ b)

-- ---- `check merge`

-- What `check merge` did to its sources and to `out`, by its outcome. It reports how many rounds could be written, and writes only that
-- line. A failed read of source k ends it: round n isn't complete, n pictures of that source are seen, and the rounds before could be
-- written.
abbrev pub ChecksMergeBy : {A K : Type 0} → Readers → List Corner → Sources A → Change K → Outcome → Type 0
ChecksMergeBy R corners sources out (Ok _) =
    OfEachSource sources IsReadOut × HasNoFault out
    × WhereAllTold R sources (λ ss. (done : List Plan) × EndsWritten corners None ss done (Ok tt) × Gains out (ok_text (length done)))
ChecksMergeBy R corners sources out (Err (Refused r place)) =
    (n : ℕ) × AreReadTo R n place sources × IsUntouched out
    × WhereAllTold R sources (λ ss. (done : List Plan) × (length done ≡ n) × EndsWritten corners None ss done (Err (Refused r place)))
ChecksMergeBy R corners sources out (Err (ReadFault k)) =
    (k < length sources.old) × HasFault (source_at sources k) × IsUntouched out
    × ((n : ℕ) × Sees R (source_at sources k) n × OthersAreRead R n k sources
    × WhereAllTold R sources (λ ss. (done : List Plan) × (length done ≡ n) × AreRoundsWritten corners None ss done × NoneRefused k ss n))
ChecksMergeBy R corners sources out (Err WriteFault) =
    OfEachSource sources IsReadOut × HasFault out
    × WhereAllTold R sources (λ ss. (done : List Plan) × EndsWritten corners None ss done (Ok tt) × GainsFront out (ok_text (length done)))
ChecksMergeBy R corners sources out (Err NoMemory) = OfEachSource sources IsRead × IsUntouched out
ChecksMergeBy R corners sources out (Err _) = ⊥

-- ---- `merge`

-- A write failed: all of these bytes were gained, and after them a proper prefix of those.
pub record GainsInto {K : Type 0} (out : Change K) (done next : List ℕ) : Type 0 where
  pub failed : HasFault out
  pub front : List ℕ
  pub of_next : StartsWith next front
  pub short : length front < length next
  pub gained : Appends (out.bytes out.old) (out.bytes out.new) (done ++ front)

-- `out` gained what is written of these rounds, and it is read again as the merge of these pictures of the sources.
abbrev pub GainsMerge : {K : Type 0} → Readers → List Corner → List (List Picture) → List Plan → Change K → Type 0
GainsMerge R corners sources done out = Gains out (bytes_of done) × IsMergedAgain R corners sources (bytes_of done)

-- What `merge` did to its sources and to `out`, by its outcome. It writes all rounds before it ends, and they are read again: with status
-- 0 as the merge of all pictures of the sources, and otherwise of their first ones. After a failed read of source k it has written the
-- rounds before round n, and n pictures of that source are seen. After a failed write it has written those before a round, and a prefix
-- of that round. After lack of memory it has written the first ones.
abbrev pub MergesBy : {A K : Type 0} → Readers → List Corner → Option ℕ → Sources A → Change K → Outcome → Type 0
MergesBy R corners level sources out (Ok _) =
    OfEachSource sources IsReadOut × HasNoFault out
    × WhereAllTold R sources (λ ss. (done : List Plan) × EndsWritten corners level ss done (Ok tt)
    × GainsMerge R corners (map (λ s. s.pictures) ss) done out)
MergesBy R corners level sources out (Err (Refused r place)) =
    (n : ℕ) × AreReadTo R n place sources × HasNoFault out
    × WhereAllTold R sources (λ ss. (done : List Plan) × (length done ≡ n) × EndsWritten corners level ss done (Err (Refused r place))
    × GainsMerge R corners (map (first_pictures (length done)) ss) done out)
MergesBy R corners level sources out (Err (ReadFault k)) =
    (k < length sources.old) × HasFault (source_at sources k) × HasNoFault out
    × ((n : ℕ) × Sees R (source_at sources k) n × OthersAreRead R n k sources
    × WhereAllTold R sources (λ ss. (done : List Plan) × (length done ≡ n) × AreRoundsWritten corners level ss done × NoneRefused k ss n
    × GainsMerge R corners (map (first_pictures (length done)) ss) done out))
MergesBy R corners level sources out (Err WriteFault) =
    (n : ℕ) × OfEachSource sources (IsReadFor R (n + 1)) × HasFault out
    × WhereAllTold R sources (λ ss. (done : List Plan) × (p : Plan) × (length done ≡ n) × AreRoundsWritten corners level ss (p ∷ done)
    × GainsInto out (bytes_of done) (written (units_of p))
    × IsMergedAgain R corners (map (first_pictures (length done)) ss) (bytes_of done))
MergesBy R corners level sources out (Err NoMemory) =
    OfEachSource sources IsRead × HasNoFault out
    × WhereAllTold R sources (λ ss. (done : List Plan) × AreRoundsWritten corners level ss done
    × GainsMerge R corners (map (first_pictures (length done)) ss) done out)
MergesBy R corners level sources out (Err _) = ⊥

-- ---- both

abbrev pub ChecksMerge : {A K : Type 0} → List Corner → Sources A → Change K → Outcome → Type 0
ChecksMerge corners sources out outcome = OfAtMost (length corners) sources out outcome (λ R. ChecksMergeBy R corners sources out outcome)

abbrev pub Merges : {A K : Type 0} → List Corner → Option ℕ → Sources A → Change K → Outcome → Type 0
Merges corners level sources out outcome =
    OfAtMost (length corners) sources out outcome (λ R. MergesBy R corners level sources out outcome)
