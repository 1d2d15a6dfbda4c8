-- What `extract` and `check extract` find in the pictures of a source, and what they write. Lists of pictures have the latest first.
-- Our own.
use Rattle.std.specs.Prelude.{◌≡◌, ℕ, ◌<◌, Bool, true, List, [], ◌∷◌, ◌++◌, length, map, codes, decimal}
use Rattle.std.specs.Prelude.{Option, Some, None, unwrap_or, Ok, Err, IfErr}
use Rattle.std.specs.List.{AllByRecursion, concat}
use Rattle.std.specs.Io.{StartsWith}
use Rattle.std.specs.Io.KnownBytes.{Appends, Consumes, IsAtEnd}
use Rattle.vx_bits.specs.declared.refusal.Refusal.{Refusal}
use Rattle.vx_bits.specs.declared.refusal.Refusal.TheVariants.{Extract}
use Rattle.vx_bits.specs.declared.rules.TheConstants.{NO_PICTURE}
use Rattle.vx_annexb.specs.ByteStream.{UnitPlace, FollowsFrom}
use Rattle.vx_annexb.specs.Laws.{written}
use Rattle.vx_pic.specs.Readings.{Reading, Picture, pictures}
use Rattle.vx_pic.specs.Rules.{Readers}
use Rattle.vx_pic.specs.Streams.{read_on, all_read}
use Rattle.vx_pic.specs.Sublayers.{at_most}
use Rattle.vx_pic.specs.Bytes.{Ending, units_at, AreSourcePictures, AreSeenPictures}
use Rattle.vx_pic.specs.H266.{AreOfH266}
use Rattle.vx_pic.specs.Parts.{parts_of}
use Rattle.vx_pic.specs.Written.{Plan, units_of}
use Rattle.vx_pic.specs.Resident.{units_written}
use Rattle.vx_run.specs.declared.stop.Place.{Place}
use Rattle.vx_run.specs.declared.stop.Place.TheVariants as places
use Rattle.vx_assemble.specs.Feed.{seen_of, IsNearEnd}
use Rattle.vx_extract.specs.Rules.{is_kept, refusal_of}
use Rattle.vx_extract.specs.Written.{AreExtracted, IsExtracted, IsExtraction}
use Rattle.vx_run.specs.declared.stop.Stop.TheVariants.{Refused, ReadFault, WriteFault, NoMemory}
use Rattle.vx_run.specs.declared.extract.Task.{Task}
use Rattle.vx_run.specs.Change.{Change, IsUntouched, HasNoFault, HasFault, GivesFront, Gains, GainsFront}
use Rattle.vx_run.specs.Conclusion.{Outcome, IsOfCommand}
use Rattle.vx_run.specs.ReadAgain.{IsReadAgain}
use Rattle.vx_run.specs.Show.{IsToldAt}

-- The request: the subpicture of this index, at a level, of the pictures up to a TemporalId; 6 is the highest.
abbrev pub task_of : (tid level : Option ℕ) (index : ℕ) → Task
task_of tid level index = record { target = index; level = level; tid = unwrap_or tid 6 }

-- ---- pictures

-- None breaks a rule.
abbrev pub BreakNoRule : Task → List Picture → Type 0
BreakNoRule t ps = AllByRecursion (λ p. refusal_of t.target t.tid (parts_of p) ≡ None) ps

-- After these pictures comes the first that breaks a rule, which is refused with this.
pub record BreaksBehind (t : Task) (ps before : List Picture) (r : Refusal) : Type 0 where
  pub later : List Picture
  pub picture : Picture
  pub place : ps ≡ later ++ picture ∷ before
  pub kept : BreakNoRule t before
  pub broken : refusal_of t.target t.tid (parts_of picture) ≡ Some r

-- The subpicture can be extracted: the stream is whole, it has a picture, and none breaks a rule.
pub record IsExtractable (t : Task) (ps : List Picture) (ending : Option Ending) : Type 0 where
  pub whole : ending ≡ None
  pub some : 0 < length ps
  pub rules : BreakNoRule t ps

-- The last unit taken of a source completed this picture, after these. The source has given fewer bytes past the place that shows the end
-- of that unit than a read asks for.
pub record StopsBehind {A : Type 0} (R : Readers) (source : Change A) (picture : Picture) (before : List Picture) : Type 0 where
  pub given : List ℕ
  pub units : List UnitPlace
  pub last : Reading
  pub earlier : List Reading
  pub ended : Bool
  pub gave : Consumes (source.bytes source.old) (source.bytes source.new) given
  pub follow : FollowsFrom (seen_of given) ended 0 units
  pub read : read_on R [] (units_at (seen_of given) units) ≡ all_read (last ∷ earlier)
  pub done : pictures (last ∷ earlier) ≡ picture ∷ before
  pub others : pictures earlier ≡ before
  pub whole : ended ≡ true → IsAtEnd (source.bytes source.new)
  pub near : IsNearEnd given units

-- What is refused after these pictures, and at which place. It is the end of the stream; or a picture that breaks a rule, the last that
-- was taken; or that there is none.
pub data RefusesExtraction {A : Type 0} (R : Readers) (t : Task) (source : Change A) (ps : List Picture) (ending : Option Ending)
    (before : List Picture) (r : Refusal) (place : Place) : Type 0 where
  by_ending : before ≡ ps → BreakNoRule t ps → IsToldAt ending r place → RefusesExtraction R t source ps ending before r place
  by_picture : (broken : BreaksBehind t ps before r) → StopsBehind R source broken.picture before → place ≡ places.Picture (length before)
      → RefusesExtraction R t source ps ending before r place
  without : before ≡ ps → ps ≡ [] → ending ≡ None → IsAtEnd (source.bytes source.new) → r ≡ Extract NO_PICTURE → place ≡ places.Picture 0
      → RefusesExtraction R t source ps ending before r place

-- For a source with known bytes: this holds of its pictures and its ending.
abbrev pub WhereTold : {A : Type 0} → Readers → Change A → (List Picture → Option Ending → Type 0) → Type 0
WhereTold R source P =
    (b : List ℕ) (ps : List Picture) (ending : Option Ending)
    → source.bytes source.old ≡ Some b → AreSourcePictures R b ps ending → P ps ending

-- These are the first of the pictures.
abbrev pub BeginsWithPictures : List Picture → List Picture → Type 0
BeginsWithPictures ps first = (later : List Picture) × (ps ≡ later ++ first)

-- A read failed. These are the pictures that are complete in what the source has given, however it goes on, and none breaks a rule.
pub record HasSeen {A : Type 0} (R : Readers) (t : Task) (source : Change A) (ps : List Picture) : Type 0 where
  pub given : List ℕ
  pub gave : Consumes (source.bytes source.old) (source.bytes source.new) given
  pub seen : AreSeenPictures R (seen_of given) ps
  pub rules : BreakNoRule t ps

-- ---- `extract`

-- The bytes are what is written of these pictures.
abbrev pub AreExtractedInto : Task → List Picture → List ℕ → Type 0
AreExtractedInto t ps bytes = IsExtraction t.target t.level (map parts_of (at_most t.tid ps)) bytes

-- `out` gained it, and it is read again as the subpicture of these pictures
abbrev pub GainsExtraction : {K : Type 0} → Readers → Task → List Picture → Change K → Type 0
GainsExtraction R t ps out = (bytes : List ℕ) × AreExtractedInto t ps bytes × Gains out bytes × IsReadAgain R t ps bytes

-- A write of a picture failed. `out` gained all that is written of the pictures before it, which is read again as above, and after that a
-- proper prefix of what is written of it.
pub record BreaksOff {K : Type 0} (R : Readers) (t : Task) (picture : Picture) (before : List Picture) (out : Change K) : Type 0 where
  pub done : List Plan
  pub plan : Plan
  pub others : AreExtracted t.target t.level (map parts_of (at_most t.tid before)) done
  pub again : IsReadAgain R t before (written (units_written done))
  pub kept : is_kept t.tid (parts_of picture) ≡ true
  pub extracted : IsExtracted t.target t.level (parts_of picture) done plan
  pub front : List ℕ
  pub of_picture : StartsWith (written (units_of plan)) front
  pub short : length front < length (written (units_of plan))
  pub gained : Appends (out.bytes out.old) (out.bytes out.new) (written (units_written done) ++ front)

-- A write of a picture failed: the last that was taken. Neither it nor those before it, the first of the source, break a rule.
pub record ExtractsFront {A K : Type 0} (R : Readers) (t : Task) (source : Change A) (out : Change K) : Type 0 where
  pub picture : Picture
  pub before : List Picture
  pub stops : StopsBehind R source picture before
  pub rules : BreakNoRule t (picture ∷ before)
  pub first : WhereTold R source (λ ps ending. BeginsWithPictures ps (picture ∷ before))
  pub breaks : BreaksOff R t picture before out

-- What `extract` did to its source and to `out`, by its outcome. If it is done or refused, `out` gained what is written of the pictures
-- before the ending. After lack of memory it gained what is written of the first of them, which break no rule.
abbrev pub ExtractsBy : {A K : Type 0} → Readers → Task → Change A → Change K → Outcome → Type 0
ExtractsBy R t source out (Ok _) =
    HasNoFault source × HasNoFault out × GivesFront source × IsAtEnd (source.bytes source.new)
    × WhereTold R source (λ ps ending. IsExtractable t ps ending × GainsExtraction R t ps out)
ExtractsBy R t source out (Err (Refused r place)) =
    HasNoFault source × HasNoFault out × GivesFront source
    × WhereTold R source (λ ps ending. (before : List Picture) × RefusesExtraction R t source ps ending before r place × GainsExtraction R t before out)
ExtractsBy R t source out (Err (ReadFault k)) =
    HasFault source × (k ≡ 0) × ((ps : List Picture) × HasSeen R t source ps × GainsExtraction R t ps out)
ExtractsBy R t source out (Err WriteFault) = HasNoFault source × HasFault out × ExtractsFront R t source out
ExtractsBy R t source out (Err NoMemory) =
    HasNoFault source × HasNoFault out × GivesFront source
    × WhereTold R source (λ ps ending. (first : List Picture) × BeginsWithPictures ps first × BreakNoRule t first × GainsExtraction R t first out)
ExtractsBy R t source out (Err _) = ⊥

-- That holds for the readers of H.266, and the arguments were understood.
abbrev pub Extracts : {A K : Type 0} → Task → Change A → Change K → Outcome → Type 0
Extracts t source out outcome = IfErr outcome IsOfCommand × ((R : Readers) → AreOfH266 R → ExtractsBy R t source out outcome)

-- ---- `check extract`

-- `ok pictures 2`
abbrev pub ok_text : ℕ → List ℕ
ok_text n = concat (codes "ok pictures " ∷ decimal n ∷ codes "\n" ∷ [])

-- How many pictures are kept.
abbrev pub ok_line : Task → List Picture → List ℕ
ok_line t ps = ok_text (length (at_most t.tid ps))

-- What `check extract` did to its source and to `out`, by its outcome. It reports what `extract` would do, and writes only that line.
abbrev pub ChecksBy : {A K : Type 0} → Readers → Task → Change A → Change K → Outcome → Type 0
ChecksBy R t source out (Ok _) =
    HasNoFault source × HasNoFault out × GivesFront source × IsAtEnd (source.bytes source.new)
    × WhereTold R source (λ ps ending. IsExtractable t ps ending × Gains out (ok_line t ps))
ChecksBy R t source out (Err (Refused r place)) =
    HasNoFault source × IsUntouched out × GivesFront source
    × WhereTold R source (λ ps ending. (before : List Picture) × RefusesExtraction R t source ps ending before r place)
ChecksBy R t source out (Err (ReadFault k)) =
    HasFault source × (k ≡ 0) × IsUntouched out × ((ps : List Picture) × HasSeen R t source ps)
ChecksBy R t source out (Err WriteFault) =
    HasNoFault source × HasFault out × GivesFront source × IsAtEnd (source.bytes source.new)
    × WhereTold R source (λ ps ending. IsExtractable t ps ending × GainsFront out (ok_line t ps))
ChecksBy R t source out (Err NoMemory) = HasNoFault source × IsUntouched out × GivesFront source
ChecksBy R t source out (Err _) = ⊥

abbrev pub Checks : {A K : Type 0} → Task → Change A → Change K → Outcome → Type 0
Checks t source out outcome = IfErr outcome IsOfCommand × ((R : Readers) → AreOfH266 R → ChecksBy R t source out outcome)
