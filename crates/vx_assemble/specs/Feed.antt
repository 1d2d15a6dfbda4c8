-- How callers see a feed: a few observable values, and the relation `HasFed`. It relates the feed to the bytes that it took from a
-- source, the places of the units that it took and what these were read as, the latest first. It begins with none of them; `Gives`
-- and `ReadsOn` say what it implies. Our own. All that read streams rely on it.
use Rattle.std.specs.Prelude.{◌≡◌, ℕ, ◌+◌, ◌<◌, ◌≤◌, true, false, List, [], ◌∷◌, ◌++◌, length, take, Option, Some, None, Result, Ok, Err}
use Rattle.std.specs.Io.KnownBytes.{Consumes, Keeps, IsAtEnd}
use Rattle.vx_bits.specs.Limits.{unit_limit}
use Rattle.vx_bits.specs.declared.refusal.Refusal.{Refusal}
use Rattle.vx_io.specs.Faults.{Rose}
use Rattle.vx_annexb.specs.NalUnit.{header_of}
use Rattle.vx_annexb.specs.ByteStream.{source_limit, UnitPlace, unit_bytes, IsStream, FollowsFrom, end_of}
use Rattle.vx_annexb.specs.Held.{is_all, ahead, held}
use Rattle.vx_annexb.specs.Reading as reader
use Rattle.vx_annexb.specs.declared.header.NalHeader.{NalHeader}
use Rattle.vx_annexb.specs.declared.unit_reader.Closed.TheVariants as closed
use Rattle.vx_annexb.specs.declared.unit_reader.ReadFault.{ReadFault}
use Rattle.vx_annexb.specs.declared.unit_reader.ReadFault.TheVariants as read_faults
use Rattle.vx_pic.specs.declared.accepted.Accepted.{Accepted}
use Rattle.vx_pic.specs.Readings.{Reading, Picture, pictures}
use Rattle.vx_pic.specs.Rules.{Readers, reads, picture_limit}
use Rattle.vx_pic.specs.Streams.{read_on, all_read, lacks_slice}
use Rattle.vx_pic.specs.Bytes.{units_at, ArePictures, AreSeenPictures}
use Rattle.vx_pic.specs.Told.{told_of}
use Rattle.vx_assemble.specs.declared.fault.First.{First}
use Rattle.vx_assemble.specs.declared.fault.First.TheVariants as firsts
use Rattle.vx_assemble.specs.declared.feed.FeedFault.{FeedFault}
use Rattle.vx_assemble.specs.declared.feed.FeedFault.TheVariants as faults
use Rattle.vx_assemble.specs.declared.feed.Step.{Step}
use Rattle.vx_assemble.specs.declared.feed.Step.TheVariants.{Picture as ToPicture, End as ToEnd}
use Rattle.vx_assemble.specs.declared.feed.Taken.{Taken}
use Rattle.vx_assemble.specs.declared.feed.Taken.TheVariants.{Nal, End}
use Rattle.vx_assemble.specs.Held.{Held, Stands, told}

-- A feed: its reader and its assembler, how many units it took, and the fault at which it stopped first.
pub record Feeding : Type 0 where
  pub reader : reader.Reading
  pub assembler : Held
  pub units : ℕ
  pub first : Option First

-- Its source may be read on.
pub record IsOpen (f : Feeding) : Type 0 where
  pub reader : reader.IsOpen f.reader
  pub going : f.first ≡ None

-- If it found the end of its source, then that has no bytes left.
abbrev pub EndsAtEnd : Feeding → Option (List ℕ) → Type 0
EndsAtEnd f left = f.reader.closed ≡ Some closed.End → IsAtEnd left

-- The first fault, from an error.
abbrev pub first_of : FeedFault → First
first_of faults.Memory = firsts.Memory
first_of faults.SourceFailed = firsts.SourceFailed
first_of (faults.Refused r) = firsts.Refused r
first_of (faults.Stopped f) = f

-- The bytes within the limit.
abbrev pub seen_of : List ℕ → List ℕ
seen_of g = take source_limit g

-- g are the bytes that it took, and the units at these places were taken, and read as these.
pub record HasFed (R : Readers) (f : Feeding) (g : List ℕ) (places : List UnitPlace) (before : List Reading) : Type 0 where
  pub read : reader.HasRead f.reader g places
  pub readings : read_on R [] (units_at (seen_of g) places) ≡ all_read before
  pub stands : Stands f.assembler before
  pub count : f.units ≡ length places
  pub going : f.first ≡ None

-- How many of the bytes that were read come after the last unit taken; taking a unit leaves fewer.
abbrev pub left_to_take : Feeding → ℕ
left_to_take f = ahead f.reader.splitter

abbrev pub Lowers : Option Taken → ℕ → ℕ → Type 0
Lowers (Some (Nal header place bytes what)) old new = new < old
Lowers _ old new = new ≤ old

-- How many bytes of its source it holds: those after the last unit taken, and those of the picture that was begun last.
abbrev pub bytes_held : Feeding → ℕ
bytes_held f = held f.reader.splitter + length f.assembler.state.picture.bytes

-- The greatest number of bytes that a feed holds: a picture, a unit that isn't whole, and what a read appends to it (our own
-- limits).
abbrev pub most_held : ℕ
most_held = picture_limit + unit_limit + 65538

-- A unit that is taken is one more.
abbrev pub Counts : Taken → ℕ → ℕ → Type 0
Counts (Nal header place bytes what) old new = new ≡ old + 1
Counts End old new = Unit {0}

-- ---- what comes after the units

-- A unit follows that is refused after those before it.
pub record UnitIsRefused (R : Readers) (f : reader.Reading) (g : List ℕ) (places : List UnitPlace) (before : List Reading) (r : Refusal)
    : Type 0 where
  pub unit : UnitPlace
  pub follows : FollowsFrom (seen_of g) (is_all f.splitter) 0 (places ++ unit ∷ [])
  pub refused : reads R before (unit_bytes (seen_of g) unit) ≡ Err r

-- All units were taken, and the last picture lacks a slice.
pub record EndIsRefused (f : reader.Reading) (g : List ℕ) (places : List UnitPlace) (before : List Reading) (r : Refusal) : Type 0 where
  pub ended : f.closed ≡ Some closed.End
  pub stream : IsStream (seen_of g) true places None
  pub lacks : lacks_slice before ≡ Some r

-- What is read is refused for this after these units: for its framing, or for more bytes than a source may have; for a unit; or
-- at the end.
pub data IsRefusedFor (R : Readers) (f : reader.Reading) (g : List ℕ) (places : List UnitPlace) (before : List Reading) (r : Refusal)
    : Type 0 where
  by_bytes : reader.IsRefusedBy g places f r → IsRefusedFor R f g places before r
  by_unit : UnitIsRefused R f g places before r → IsRefusedFor R f g places before r
  at_end : EndIsRefused f g places before r → IsRefusedFor R f g places before r

-- The pictures of what is read are those of these units, and it ends after them for this refusal.
abbrev pub EndsThere : Readers → reader.Reading → List ℕ → List UnitPlace → List Reading → Refusal → Type 0
EndsThere R f g places before r =
    ArePictures R (seen_of g) (is_all f.splitter) (pictures before) (Some (record { units = length places; refusal = r }))

-- ---- one unit

-- The header, the place, the length and the kind of the unit at a place, which was read as this after those before it.
pub record IsTold (g : List ℕ) (u : UnitPlace) (r : Reading) (before : List Reading) (h : NalHeader) (place n : ℕ) (a : Accepted)
    : Type 0 where
  pub header : h ≡ header_of (unit_bytes (seen_of g) u)
  pub offset : place ≡ u.start
  pub bytes : n ≡ length (unit_bytes (seen_of g) u)
  pub what : a ≡ told_of r before

-- The next unit in what was read: one whose end is seen, and that was taken; none; the end; or a refusal.
abbrev pub Gives : Readers → List ℕ → List UnitPlace → List Reading → Feeding → Result (Option Taken) FeedFault → Type 0
Gives R g places before f (Ok (Some (Nal header place bytes what))) =
    (u : UnitPlace) × (r : Reading) × HasFed R f g (places ++ u ∷ []) (r ∷ before) × IsTold g u r before header place bytes what
Gives R g places before f (Ok (Some End)) =
    HasFed R f g places before × IsStream (seen_of g) true places None × ArePictures R (seen_of g) true (pictures before) None
    × (f.reader.closed ≡ Some closed.End) × (lacks_slice before ≡ None)
Gives R g places before f (Ok None) =
    HasFed R f g places before × IsStream (seen_of g) false places None × AreSeenPictures R (seen_of g) (pictures before)
Gives R g places before f (Err (faults.Refused r)) =
    IsRefusedFor R f.reader g places before r × EndsThere R f.reader g places before r
    × ((later : List UnitPlace) × reader.HasRead f.reader g (places ++ later)) × (read_on R [] (units_at (seen_of g) places) ≡ all_read before)
Gives R g places before f (Err faults.Memory) = Unit {0}
Gives R g places before f (Err faults.SourceFailed) = ⊥
Gives R g places before f (Err (faults.Stopped first)) = ⊥

-- ---- one unit that is looked at before it is taken

-- What was seen if the feed is refused: the unit that is refused, or nothing.
pub data SeesRefused {V : Type 0} (sees : List Reading → List ℕ → V) (nothing : V) (R : Readers) (f : reader.Reading) (g : List ℕ)
    (places : List UnitPlace) (before : List Reading) (r : Refusal) (seen : V) : Type 0 where
  at_bytes : reader.IsRefusedBy g places f r → seen ≡ nothing → SeesRefused sees nothing R f g places before r seen
  at_unit : (refused : UnitIsRefused R f g places before r) → seen ≡ sees before (unit_bytes (seen_of g) refused.unit)
      → SeesRefused sees nothing R f g places before r seen
  sees_at_end : EndIsRefused f g places before r → seen ≡ nothing → SeesRefused sees nothing R f g places before r seen

-- The next unit in what was read, as in `Gives`, and what was seen: that unit after those before it, or nothing.
abbrev pub GivesSeen : {V : Type 0} → (List Reading → List ℕ → V) → V → Readers → List ℕ → List UnitPlace → List Reading → Feeding
    → Result (Option Taken) FeedFault → V → Type 0
GivesSeen sees nothing R g places before f (Ok (Some (Nal header place bytes what))) seen =
    (u : UnitPlace) × (r : Reading) × HasFed R f g (places ++ u ∷ []) (r ∷ before) × IsTold g u r before header place bytes what
    × (seen ≡ sees before (unit_bytes (seen_of g) u))
GivesSeen sees nothing R g places before f (Ok (Some End)) seen = seen ≡ nothing
GivesSeen sees nothing R g places before f (Ok None) seen = seen ≡ nothing
GivesSeen sees nothing R g places before f (Err (faults.Refused r)) seen = SeesRefused sees nothing R f.reader g places before r seen
GivesSeen sees nothing R g places before f (Err fault) seen = Unit {0}

-- The result for the unit that was taken is the assembler's last result.
abbrev pub IsToldBy : Held → Option Taken → Type 0
IsToldBy h (Some (Nal header place bytes what)) = told h ≡ what
IsToldBy h _ = Unit {0}

-- ---- one read

-- One read of a source with these bytes left and this count of faults, before and after it.
abbrev pub ReadsOn : Readers → List ℕ → List UnitPlace → List Reading → Feeding
    → Option (List ℕ) → Option (List ℕ) → ℕ → ℕ → Result (Unit {0}) ReadFault → Type 0
ReadsOn R g places before new left left' faults faults' (Ok _) =
    (piece : List ℕ) × Consumes left left' piece × (length piece ≤ 65536) × (faults' ≡ faults)
    × HasFed R new (g ++ piece) places before × (new.reader.closed ≡ Some closed.End → (length piece ≡ 0) × IsAtEnd left')
ReadsOn R g places before new left left' faults faults' (Err read_faults.Memory) = (left' ≡ left) × (faults' ≡ faults)
ReadsOn R g places before new left left' faults faults' (Err read_faults.SourceFailed) = Keeps left left' × Rose faults faults'

-- ---- reads as they are needed

-- The source has given fewer bytes past the place where the unit's end is seen than a read asks for.
abbrev pub IsNear : List ℕ → Taken → Type 0
IsNear g (Nal header place bytes what) = length g < place + bytes + 3 + 65536
IsNear g End = Unit {0}

-- The next unit of a source with these bytes left and this count of faults, before and after it. A piece is read after g, by reads
-- that were needed, and then a unit is taken, or the end, or why there is none. At a failed read no further picture is seen in what
-- was read.
abbrev pub TakesBehind : Readers → List ℕ → List UnitPlace → List Reading → Feeding → ℕ → ℕ → Result Taken FeedFault → Type 0
TakesBehind R g places before new count count' (Ok taken) =
    (count' ≡ count) × reader.LastWasNeeded g places × IsNear g taken × Gives R g places before new (Ok (Some taken))
TakesBehind R g places before new count count' (Err faults.SourceFailed) =
    Rose count count' × IsStream (seen_of g) false places None × AreSeenPictures R (seen_of g) (pictures before)
TakesBehind R g places before new count count' (Err fault) = (count' ≡ count) × Gives R g places before new (Err fault)

pub record Takes (R : Readers) (g : List ℕ) (places : List UnitPlace) (before : List Reading) (new : Feeding)
    (left left' : Option (List ℕ)) (faults faults' : ℕ) (result : Result Taken FeedFault) : Type 0 where
  pub piece : List ℕ
  pub consumed : Consumes left left' piece
  pub behind : TakesBehind R (g ++ piece) places before new faults faults' result

-- ---- pictures

-- After the units at these places, read as these, more were taken: at later places, read as `readings`, the latest first.
pub record HasGone (R : Readers) (f : Feeding) (g : List ℕ) (places : List UnitPlace) (before readings : List Reading) : Type 0 where
  pub later : List UnitPlace
  pub fed : HasFed R f g (places ++ later) (readings ++ before)
  pub needed : reader.LastWasNeeded g (places ++ later)

-- After the units at these places, read as these, more were taken, which complete no picture; and what follows is refused for
-- this.
pub record IsStopped (R : Readers) (f : Feeding) (g : List ℕ) (places : List UnitPlace) (before : List Reading) (r : Refusal) : Type 0 where
  pub later : List UnitPlace
  pub readings : List Reading
  pub same : pictures (readings ++ before) ≡ pictures before
  pub were : read_on R [] (units_at (seen_of g) (places ++ later)) ≡ all_read (readings ++ before)
  pub count : f.units ≡ length (places ++ later)
  pub refused : IsRefusedFor R f.reader g (places ++ later) (readings ++ before) r
  pub more : List UnitPlace
  pub read : reader.HasRead f.reader g ((places ++ later) ++ more)

-- After the units at these places, read as these, more were taken, which complete no picture: they are in a piece of the source, of
-- which a further one may have been read after it.
pub record CompletesNone (R : Readers) (g : List ℕ) (places : List UnitPlace) (before : List Reading) (f : Feeding)
    (left left' : Option (List ℕ)) : Type 0 where
  pub piece : List ℕ
  pub behind : List ℕ
  pub consumed : Consumes left left' (piece ++ behind)
  pub later : List UnitPlace
  pub readings : List Reading
  pub same : pictures (readings ++ before) ≡ pictures before
  pub were : read_on R [] (units_at (seen_of (g ++ piece)) (places ++ later)) ≡ all_read (readings ++ before)
  pub count : f.units ≡ length (places ++ later)

-- The source has given fewer bytes past the place where the end of the last of these units is seen than a read asks for.
abbrev pub IsNearEnd : List ℕ → List UnitPlace → Type 0
IsNearEnd g places = length g < end_of 0 places + 3 + 65536

-- The next picture of a source: the one that is complete with the last of the units taken, and none is complete before; or the end;
-- or the first refusal in what was read. At a failed read no further picture is seen there.
abbrev pub AdvancesBehind : Readers → List ℕ → List UnitPlace → List Reading → Feeding → ℕ → ℕ → Result Step FeedFault → Type 0
AdvancesBehind R g places before new count count' (Ok ToPicture) =
    (count' ≡ count)
    × ((readings : List Reading) × (h : HasGone R new g places before readings)
    × ((p : Picture) × (pictures (readings ++ before) ≡ p ∷ pictures before)) × IsNearEnd g (places ++ h.later))
AdvancesBehind R g places before new count count' (Ok ToEnd) =
    (count' ≡ count)
    × ((readings : List Reading) × (h : HasGone R new g places before readings) × (pictures (readings ++ before) ≡ pictures before))
    × ArePictures R (seen_of g) true (pictures before) None
    × (new.reader.closed ≡ Some closed.End)
AdvancesBehind R g places before new count count' (Err faults.Memory) = count' ≡ count
AdvancesBehind R g places before new count count' (Err faults.SourceFailed) =
    Rose count count' × AreSeenPictures R (seen_of g) (pictures before)
AdvancesBehind R g places before new count count' (Err (faults.Refused r)) =
    (count' ≡ count)
    × ArePictures R (seen_of g) (is_all new.reader.splitter) (pictures before) (Some (record { units = new.units; refusal = r }))
    × IsStopped R new g places before r
AdvancesBehind R g places before new count count' (Err (faults.Stopped first)) = ⊥

pub record Advances (R : Readers) (g : List ℕ) (places : List UnitPlace) (before : List Reading) (new : Feeding)
    (left left' : Option (List ℕ)) (faults faults' : ℕ) (result : Result Step FeedFault) : Type 0 where
  pub piece : List ℕ
  pub consumed : Consumes left left' piece
  pub behind : AdvancesBehind R (g ++ piece) places before new faults faults' result
