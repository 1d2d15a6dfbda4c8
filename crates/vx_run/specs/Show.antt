-- What `show` finds in the bytes of a source, and what it writes. Our own.
use Rattle.std.specs.Prelude.{◌≡◌, ℕ, ◌+◌, ◌<◌, nat_le, Bool, true, false, List, [], ◌∷◌, ◌++◌, length, take}
use Rattle.std.specs.Prelude.{Option, Some, None, Result, Ok, Err, IfErr}
use Rattle.std.specs.List.{flat_map}
use Rattle.std.specs.Io.KnownBytes.{Consumes, IsAtEnd}
use Rattle.vx_bits.specs.declared.refusal.Refusal.{Refusal}
use Rattle.vx_bits.specs.declared.refusal.Refusal.TheVariants.{Syntax}
use Rattle.vx_annexb.specs.NalUnit.{header_of}
use Rattle.vx_annexb.specs.ByteStream.{source_limit, UnitPlace, unit_bytes, IsStream, FollowsFrom}
use Rattle.vx_pic.specs.Readings.{Reading, vps_read, sps_read, pps_read, aps_read, Picture, completed, pictures}
use Rattle.vx_pic.specs.Parts.{parts_of}
use Rattle.vx_pic.specs.Rules.{Readers, reads}
use Rattle.vx_pic.specs.Streams.{read_on, all_read}
use Rattle.vx_pic.specs.Bytes.{Ending, units_at, ending_by}
use Rattle.vx_pic.specs.H266.{AreOfH266}
use Rattle.vx_sps.specs.Subpictures.{subpics_of}
use Rattle.vx_run.specs.declared.stop.Place.{Place}
use Rattle.vx_run.specs.declared.stop.Place.TheVariants as places
use Rattle.vx_report.specs.declared.picture.PictureNumbers.{PictureNumbers}
use Rattle.vx_report.specs.declared.set.SetNumbers.TheVariants.{Aps}
use Rattle.vx_report.specs.UnitLine.{unit_text}
use Rattle.vx_report.specs.FieldsLine.{fields_text}
use Rattle.vx_assemble.specs.Fields.{unit_fields}
use Rattle.vx_report.specs.SetLine.{set_text, vps_numbers, sps_numbers, pps_numbers}
use Rattle.vx_report.specs.PictureLine.{picture_text}
use Rattle.vx_report.specs.InputLines.{inputs_text}
use Rattle.vx_run.specs.declared.stop.Stop.TheVariants.{Refused, ReadFault, WriteFault, NoMemory}
use Rattle.vx_run.specs.Change.{Change, HasNoFault, HasFault, GivesFront, Gains, GainsFront}
use Rattle.vx_run.specs.Conclusion.{Outcome, IsOfCommand}
use Rattle.vx_assemble.specs.Feed.{seen_of}

-- All bytes of a source are read.
abbrev pub is_within_limit : List ℕ → Bool
is_within_limit b = nat_le (length b) source_limit

-- The line of a unit whose first byte is at this place.
unfoldable pub shown_line : List ℕ → ℕ → List ℕ
shown_line unit place = unit_text (header_of unit) place (length unit)

-- The line of a unit of these bytes.
abbrev pub line_of_unit : List ℕ → UnitPlace → List ℕ
line_of_unit b u = shown_line (unit_bytes b u) u.start

-- ---- the lines of a unit that is read

-- The line of a set.
unfoldable pub set_lines : Reading → List ℕ
set_lines (vps_read v) = set_text (vps_numbers v)
set_lines (sps_read s) = set_text (sps_numbers s)
set_lines (pps_read p) = set_text (pps_numbers p)
set_lines (aps_read a) = set_text (Aps a.kind a.id)
set_lines _ = []

-- The numbers shown of picture n, from 0.
abbrev pub numbers_shown : ℕ → Picture → PictureNumbers
numbers_shown n p = record {
  picture = n;
  clvss = p.kind.clvss;
  poc = p.kind.poc;
  slices = length p.slices;
  subpictures = subpics_of p.begun.sps;
}

-- The line of the picture that this reading completes after those before it, the latest first.
unfoldable pub picture_lines : Reading → List Reading → List ℕ
picture_lines r before = flat_map (λ p. picture_text (numbers_shown (length (pictures before)) p)) (completed r before)

-- The lines of the unit, of the set that it is, and of the picture that it completes.
abbrev pub unit_lines : List ℕ → UnitPlace → Reading → List Reading → List ℕ
unit_lines b u r before = line_of_unit b u ++ (set_lines r ++ picture_lines r before)

-- ---- the lines of units

-- The further lines for a unit after those before it, whether it is read or refused.
abbrev pub Teller : Type 0
Teller = List Reading → List ℕ → List ℕ

-- No further lines.
abbrev pub tells_nothing : Teller
tells_nothing before unit = []

-- The field at which a rule is broken, if it is a rule of syntax.
abbrev pub refused_field : Refusal → Option ℕ
refused_field (Syntax field bit cause) = Some field
refused_field _ = None

abbrev pub field_of : Result Reading Refusal → Option ℕ
field_of (Ok r) = None
field_of (Err refusal) = refused_field refusal

-- The line of the fields that it spells, with the field at which it is refused.
abbrev pub tells_fields : (R : Readers) → AreOfH266 R → Teller
tells_fields R h before unit = fields_text (length before) (unit_fields R h before unit) (field_of (reads R before unit))

-- The lines of the slices of the picture that this reading completes after those before it, with their decoding inputs.
unfoldable pub input_lines : Reading → List Reading → List ℕ
input_lines r before = flat_map (λ p. inputs_text (length (pictures before)) (parts_of p)) (completed r before)

-- Those of the picture that a unit completes.
abbrev pub inputs_read : Result Reading Refusal → List Reading → List ℕ
inputs_read (Ok r) before = input_lines r before
inputs_read (Err refusal) before = []

abbrev pub tells_inputs : Readers → Teller
tells_inputs R before unit = inputs_read (reads R before unit) before

-- What is told if it is asked for, and nothing otherwise.
abbrev pub where_asked : Bool → Teller → Teller
where_asked true T = T
where_asked false T = tells_nothing

-- The further lines: the inputs and then the fields, each if they are asked for.
abbrev pub teller : (fields inputs : Bool) → (R : Readers) → AreOfH266 R → Teller
teller fields inputs R h before unit =
    where_asked inputs (tells_inputs R) before unit ++ where_asked fields (tells_fields R h) before unit

-- The lines of a unit that is read, with the further lines.
abbrev pub told_lines : Teller → List ℕ → UnitPlace → Reading → List Reading → List ℕ
told_lines T b u r before = unit_lines b u r before ++ T before (unit_bytes b u)

-- The lines of a reading; or the further lines if a rule is broken.
abbrev pub where_read : Result Reading Refusal → (Reading → List ℕ) → List ℕ → List ℕ
where_read (Ok r) lines told = lines r
where_read (Err refusal) lines told = told

-- The lines of these units, each read after those before it, up to the first that breaks a rule, which has the further lines only.
abbrev pub lines_behind : Readers → Teller → List ℕ → List Reading → List UnitPlace → List ℕ
lines_behind R T b before [] = []
lines_behind R T b before (u ∷ units) =
    where_read (reads R before (unit_bytes b u)) (λ r. told_lines T b u r before ++ lines_behind R T b (r ∷ before) units)
    (T before (unit_bytes b u))

-- The lines written for these units of a source's bytes.
abbrev pub shown_lines : Readers → Teller → List ℕ → List UnitPlace → List ℕ
shown_lines R T b units = lines_behind R T (seen_of b) [] units

-- ---- a source

-- The units of a source's bytes as framing gives them, and the first rule that is broken with the number of units before it. Of a
-- source that has more bytes than the limit the units are those whose end is seen in that many.
pub record IsShown (R : Readers) (b : List ℕ) (units : List UnitPlace) (ending : Option Ending) : Type 0 where
  pub framing : Option Refusal
  pub stream : IsStream (seen_of b) (is_within_limit b) units framing
  pub ends : ending ≡ ending_by (is_within_limit b) framing (read_on R [] (units_at (seen_of b) units))

-- A refusal is reported at its place.
pub record IsToldAt (ending : Option Ending) (r : Refusal) (place_told : Place) : Type 0 where
  pub first : Ending
  pub is : ending ≡ Some first
  pub refusal : r ≡ first.refusal
  pub place : place_told ≡ places.Unit 0 first.units

-- For a source with known bytes: this holds of their units and their ending.
abbrev pub WhereKnown : {A : Type 0} → Readers → Change A → (List ℕ → List UnitPlace → Option Ending → Type 0) → Type 0
WhereKnown R source P =
    (b : List ℕ) (units : List UnitPlace) (ending : Option Ending)
    → source.bytes source.old ≡ Some b → IsShown R b units ending → P b units ending

-- How many bytes a read asks for.
abbrev pub read_len : ℕ
read_len = 65536

-- How many bytes show the end of a unit, if 00 00 00 or 00 00 01 comes after it.
abbrev pub shown_by : UnitPlace → ℕ
shown_by u = u.end + 3

-- A read failed. `out` gained the lines of exactly the units that are complete in what the source has given, however it goes on, and no
-- rule is broken there.
pub record ShowsSeen {A K : Type 0} (R : Readers) (T : Teller) (source : Change A) (out : Change K) : Type 0 where
  pub given : List ℕ
  pub units : List UnitPlace
  pub before : List Reading
  pub gave : Consumes (source.bytes source.old) (source.bytes source.new) given
  pub seen : IsStream given false units None
  pub read : read_on R [] (units_at given units) ≡ all_read before
  pub lines : Gains out (lines_behind R T given [] units)

-- A write failed. `out` gained a prefix of the lines of the units up to one, the last that was read. The source has ended, or has given
-- fewer bytes past the place that shows the end of that unit than a read asks for.
pub record ShowsFront {A K : Type 0} (R : Readers) (T : Teller) (source : Change A) (out : Change K) : Type 0 where
  pub given : List ℕ
  pub before : List UnitPlace
  pub last : UnitPlace
  pub ended : Bool
  pub gave : Consumes (source.bytes source.old) (source.bytes source.new) given
  pub follow : FollowsFrom (seen_of given) ended 0 (before ++ last ∷ [])
  pub lines : GainsFront out (shown_lines R T given (before ++ last ∷ []))
  pub whole : ended ≡ true → IsAtEnd (source.bytes source.new)
  pub near : ended ≡ false → length given < shown_by last + read_len

-- What `show` did to its source and to `out`, by its outcome. If it is done or refused, `out` gained the lines of the units before the
-- ending. After lack of memory it gained those of the first of them, each with all its lines.
abbrev pub ShowsBy : {A K : Type 0} → Readers → Teller → Change A → Change K → Outcome → Type 0
ShowsBy R T source out (Ok _) =
    HasNoFault source × HasNoFault out × GivesFront source × IsAtEnd (source.bytes source.new)
    × WhereKnown R source (λ b units ending. (ending ≡ None) × Gains out (shown_lines R T b units))
ShowsBy R T source out (Err (Refused refusal place)) =
    HasNoFault source × HasNoFault out × GivesFront source
    × WhereKnown R source (λ b units ending. IsToldAt ending refusal place × Gains out (shown_lines R T b units))
ShowsBy R T source out (Err (ReadFault k)) = HasFault source × (k ≡ 0) × ShowsSeen R T source out
ShowsBy R T source out (Err WriteFault) =
    HasNoFault source × HasFault out × ShowsFront R T source out
    × WhereKnown R source (λ b units ending. GainsFront out (shown_lines R T b units))
ShowsBy R T source out (Err NoMemory) =
    HasNoFault source × HasNoFault out × GivesFront source
    × WhereKnown R source (λ b units ending. (n : ℕ) × Gains out (shown_lines R T b (take n units)))
ShowsBy R T source out (Err _) = ⊥

-- That holds for the readers of H.266, with the fields and the inputs if they are asked for, and the arguments were understood.
abbrev pub Shows : {A K : Type 0} → (fields inputs : Bool) → Change A → Change K → Outcome → Type 0
Shows fields inputs source out outcome =
    IfErr outcome IsOfCommand × ((R : Readers) (h : AreOfH266 R) → ShowsBy R (teller fields inputs R h) source out outcome)
