-- The steps of `show`: the lines of the complete units, gathered and then written, and what the source has given. `before` are the
-- readings of the units, the latest first. Our own.
use Rattle.std.specs.Prelude.{◌≡◌, ◌⊎◌, ℕ, ◌+◌, ◌-◌, ◌^◌, ◌<◌, Bool, true, false, List, [], ◌∷◌, ◌++◌, length}
use Rattle.std.specs.Prelude.{Option, Some, None, Result, Ok, Err}
use Rattle.std.specs.Io.KnownBytes.{Consumes, IsAtEnd}
use Rattle.vx_annexb.specs.ByteStream.{UnitPlace, unit_bytes, IsUnit, IsStream, FollowsFrom, end_of}
use Rattle.vx_annexb.specs.Held.{is_all}
use Rattle.vx_annexb.specs.declared.unit_reader.Closed.{Closed}
use Rattle.vx_annexb.specs.declared.unit_reader.Closed.TheVariants.{End, TooLong, Failed}
use Rattle.vx_annexb.specs.declared.unit_reader.ReadFault.{ReadFault as ReadAnswer}
use Rattle.vx_annexb.specs.declared.unit_reader.ReadFault.TheVariants.{Memory, SourceFailed}
use Rattle.vx_pic.specs.Readings.{Reading, pictures}
use Rattle.vx_pic.specs.Rules.{Readers}
use Rattle.vx_pic.specs.H266.{AreOfH266}
use Rattle.vx_pic.specs.Shown.{no_fields}
use Rattle.vx_pic.specs.declared.structure.StructureFields.{StructureFields}
use Rattle.vx_assemble.specs.Fields.{unit_fields}
use Rattle.vx_pic.specs.Streams.{read_on, all_read, lacks_slice}
use Rattle.vx_pic.specs.Bytes.{units_at}
use Rattle.vx_assemble.specs.Feed.{Feeding, HasFed, UnitIsRefused, IsRefusedFor, by_bytes, by_unit, at_end, ReadsOn as Reads}
use Rattle.vx_annexb.specs.Reading.{Reading as ReaderState}
use Rattle.vx_bits.specs.declared.refusal.Refusal.{Refusal}
use Rattle.vx_run.specs.declared.stop.Place.TheVariants as places
use Rattle.vx_run.specs.declared.stop.Stop.{Stop}
use Rattle.vx_run.specs.declared.stop.Stop.TheVariants.{Refused, ReadFault, WriteFault, NoMemory}
use Rattle.vx_run.specs.Change.{Change, HasNoFault, Gains, GainsFront}
use Rattle.vx_run.specs.Conclusion.{Outcome}
use Rattle.vx_run.specs.Show.{Teller, input_lines, lines_behind, shown_lines, told_lines, shown_by, read_len}
use Rattle.vx_assemble.specs.Feed.{seen_of}

-- The fields of a unit that it spells, if they are asked for.
abbrev pub seen_by : (fields : Bool) → (R : Readers) → AreOfH266 R → List Reading → List ℕ → StructureFields
seen_by true R h before unit = unit_fields R h before unit
seen_by false R h before unit = no_fields

-- The lines of the slices of the picture that a reading completes, if they are asked for.
abbrev pub asked_inputs : (inputs : Bool) → Reading → List Reading → List ℕ
asked_inputs true r before = input_lines r before
asked_inputs false r before = []

-- More may be read, or all was, and no picture lacks a slice.
abbrev pub EndsBy : Option Closed → List Reading → Type 0
EndsBy None before = Unit {0}
EndsBy (Some End) before = lacks_slice before ≡ None
EndsBy (Some TooLong) before = ⊥
EndsBy (Some Failed) before = ⊥

-- No further unit's end is seen.
pub record SeesNone (R : Readers) (f : Feeding) (g : List ℕ) (units : List UnitPlace) (before : List Reading) : Type 0 where
  pub fed : HasFed R f g units before
  pub stream : IsStream (seen_of g) (is_all f.reader.splitter) units None
  pub ends : EndsBy f.reader.closed before

-- One read of a source, with this result.
abbrev pub ReadsOnce : {A : Type 0} → Readers → List ℕ → List UnitPlace → List Reading → Feeding → Change A → Result (Unit {0}) ReadAnswer → Type 0
ReadsOnce R g units before f source result =
    Reads R g units before f (source.bytes source.old) (source.bytes source.new) (source.faults source.old) (source.faults source.new) result

-- One read of a source, or what stopped it.
abbrev pub ReadsOn : {A : Type 0} → Readers → List ℕ → List UnitPlace → List Reading → Feeding → Change A → Outcome → Type 0
ReadsOn R g units before f source (Ok _) = ReadsOnce R g units before f source (Ok tt)
ReadsOn R g units before f source (Err NoMemory) = ReadsOnce R g units before f source (Err Memory)
ReadsOn R g units before f source (Err (ReadFault k)) = (k ≡ 0) × ReadsOnce R g units before f source (Err SourceFailed)
ReadsOn R g units before f source (Err _) = ⊥

-- How many more bytes may be read of a source.
abbrev pub left_to_read : Option Closed → ℕ → ℕ
left_to_read None taken = 2 ^ 40 + 1 - taken
left_to_read (Some closed) taken = 0

-- The further lines for the unit for which a feed is refused: none if it is refused for its bytes or at the end.
abbrev pub told_refused : {R : Readers} {f : ReaderState} {g : List ℕ} {units : List UnitPlace} {before : List Reading} {r : Refusal}
    → Teller → IsRefusedFor R f g units before r → List ℕ
told_refused T (by_bytes stream) = []
told_refused {R} {f} {g} {units} {before} T (by_unit u) = T before (unit_bytes (seen_of g) u.unit)
told_refused T (at_end e) = []

-- Why no further line is gathered after those of these units, or how many pictures are done; and the further lines.
abbrev pub EndsGathering : Readers → Teller → Feeding → List ℕ → List UnitPlace → List Reading → List ℕ → Result ℕ Stop → Type 0
EndsGathering R T f g units before told (Ok n) = SeesNone R f g units before × (n ≡ length (pictures before)) × (told ≡ [])
EndsGathering R T f g units before told (Err (Refused refusal place)) =
    (why : IsRefusedFor R f.reader g units before refusal) × (place ≡ places.Unit 0 (length units)) × (told ≡ told_refused T why)
EndsGathering R T f g units before told (Err NoMemory) = told ≡ []
EndsGathering R T f g units before told (Err _) = ⊥

-- The lines of the next unit were appended.
pub record GathersOne (R : Readers) (T : Teller) (g : List ℕ) (units : List UnitPlace) (before : List Reading) (f : Feeding)
    (old new : List ℕ) (n : ℕ) : Type 0 where
  pub place : UnitPlace
  pub reading : Reading
  pub fed : HasFed R f g (units ++ place ∷ []) (reading ∷ before)
  pub lines : new ≡ old ++ told_lines T (seen_of g) place reading before
  pub count : n ≡ length (pictures (reading ∷ before))

-- The lines of the next unit were gathered, or this is why there are none.
abbrev pub GathersNext : Readers → Teller → List ℕ → List UnitPlace → List Reading → Feeding → List ℕ → List ℕ → Result (Option ℕ) Stop
    → Type 0
GathersNext R T g units before f old new (Ok (Some n)) = GathersOne R T g units before f old new n
GathersNext R T g units before f old new (Ok None) = SeesNone R f g units before × (new ≡ old)
GathersNext R T g units before f old new (Err stop) =
    (told : List ℕ) × EndsGathering R T f g units before told (Err stop) × (new ≡ old ++ told)

-- The lines of the complete units were appended, and the further lines of one that is refused.
pub record Gathers (R : Readers) (T : Teller) (g : List ℕ) (units : List UnitPlace) (before : List Reading) (f : Feeding)
    (old new : List ℕ) (result : Result ℕ Stop) : Type 0 where
  pub later : List UnitPlace
  pub after : List Reading
  pub told : List ℕ
  pub follow : FollowsFrom (seen_of g) (is_all f.reader.splitter) 0 (units ++ later)
  pub readings : read_on R [] (units_at (seen_of g) (units ++ later)) ≡ all_read after
  pub lines : new ≡ old ++ (lines_behind R T (seen_of g) before later ++ told)
  pub ends : EndsGathering R T f g (units ++ later) after told result

-- The lines gathered so far.
pub record HasGathered (R : Readers) (T : Teller) (g : List ℕ) (units : List UnitPlace) (before : List Reading) (f : Feeding)
    (old new : List ℕ) (n : ℕ) : Type 0 where
  pub later : List UnitPlace
  pub after : List Reading
  pub fed : HasFed R f g (units ++ later) after
  pub lines : new ≡ old ++ lines_behind R T (seen_of g) before later
  pub count : n ≡ length (pictures after)

-- The further lines after those of units: none, or those of a unit that is refused.
abbrev pub TellsLast : Readers → Teller → ReaderState → List ℕ → List UnitPlace → List Reading → List ℕ → Type 0
TellsLast R T f g units before told =
    (told ≡ []) ⊎ ((r : Refusal) × (u : UnitIsRefused R f g units before r) × (told ≡ T before (unit_bytes (seen_of g) u.unit)))

-- They were written, or a prefix of them if the write failed.
abbrev pub WritesLines : {K : Type 0} → Readers → Teller → Feeding → List ℕ → List UnitPlace → List Reading → List ℕ → List ℕ → Change K
    → Result ℕ Stop → Type 0
WritesLines R T f g units before lines told out (Err WriteFault) =
    GainsFront out (lines ++ told) × TellsLast R T f.reader g units before told
WritesLines R T f g units before lines told out result = Gains out (lines ++ told) × EndsGathering R T f g units before told result

-- The complete units were shown, after these.
pub record ShowsLater {K : Type 0} (R : Readers) (T : Teller) (g : List ℕ) (units : List UnitPlace) (before : List Reading) (f : Feeding)
    (out : Change K) (result : Result ℕ Stop) : Type 0 where
  pub later : List UnitPlace
  pub after : List Reading
  pub told : List ℕ
  pub follow : FollowsFrom (seen_of g) (is_all f.reader.splitter) 0 (units ++ later)
  pub readings : read_on R [] (units_at (seen_of g) (units ++ later)) ≡ all_read after
  pub writes : WritesLines R T f g (units ++ later) after (lines_behind R T (seen_of g) before later) told out result

-- All complete units in what the source has given were shown, and n pictures are done.
pub record HasShown {A K : Type 0} (R : Readers) (T : Teller) (source : Change A) (out : Change K) (f : Feeding) (n : ℕ) : Type 0 where
  pub given : List ℕ
  pub units : List UnitPlace
  pub before : List Reading
  pub kept : HasNoFault source
  pub gave : Consumes (source.bytes source.old) (source.bytes source.new) given
  pub none : SeesNone R f given units before
  pub lines : Gains out (shown_lines R T given units)
  pub count : n ≡ length (pictures before)
  pub ended : f.reader.closed ≡ Some End → IsAtEnd (source.bytes source.new)

-- More was read of the source after the units that were shown, and the end of the next unit is there.
pub record HasReached {A K : Type 0} (R : Readers) (T : Teller) (source : Change A) (out : Change K) (f : Feeding) (n : ℕ) : Type 0 where
  pub given : List ℕ
  pub units : List UnitPlace
  pub before : List Reading
  pub kept : HasNoFault source
  pub gave : Consumes (source.bytes source.old) (source.bytes source.new) given
  pub fed : HasFed R f given units before
  pub lines : Gains out (shown_lines R T given units)
  pub count : n ≡ length (pictures before)
  pub ended : f.reader.closed ≡ Some End → IsAtEnd (source.bytes source.new)
  pub near : (u : UnitPlace) → IsUnit (seen_of given) false (end_of 0 units) u → length given < shown_by u + read_len
