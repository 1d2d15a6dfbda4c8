-- The invariants of a feed, and its steps.
use Rattle.std.specs.Prelude.{◌≡◌, ℕ, ◌+◌, ◌^◌, ◌≤◌, List, ◌++◌, length, Option, Result, Ok, Err, Some, None, IsSome}
use Rattle.vx_annexb.specs.NalUnit.{header_of}
use Rattle.vx_annexb.specs.Held.{ahead, fed}
use Rattle.vx_annexb.specs.Reading as reader
use Rattle.vx_annexb.specs.Reading.{HoldsFew}
use Rattle.vx_annexb.specs.declared.unit_reader.Closed.TheVariants.{Failed}
use Rattle.vx_annexb.specs.declared.unit_reader.ReadFault.{ReadFault}
use Rattle.vx_annexb.specs.declared.unit_reader.ReadFault.TheVariants as read_faults
use Rattle.std.specs.Io.KnownBytes.{Consumes}
use Rattle.vx_annexb.specs.ByteStream.{UnitPlace}
use Rattle.vx_pic.specs.declared.accepted.Accepted.TheVariants as accepted
use Rattle.vx_pic.specs.Readings.{Reading, pictures}
use Rattle.vx_pic.specs.H266.{AreOfH266}
use Rattle.vx_pic.specs.Rules.{Readers, reads}
use Rattle.vx_assemble.specs.declared.fault.AssembleFault.{AssembleFault}
use Rattle.vx_assemble.specs.declared.fault.AssembleFault.TheVariants as assembler
use Rattle.vx_assemble.specs.declared.feed.FeedFault.{FeedFault}
use Rattle.vx_assemble.specs.declared.feed.FeedFault.TheVariants as faults
use Rattle.vx_assemble.specs.declared.feed.Step.{Step}
use Rattle.vx_assemble.specs.declared.feed.Step.TheVariants as steps
use Rattle.vx_assemble.specs.declared.feed.Taken.{Taken}
use Rattle.vx_assemble.specs.declared.feed.Taken.TheVariants.{Nal, End}
use Rattle.vx_assemble.specs.Held.{Held, Took, IsBounded}
use Rattle.vx_assemble.specs.declared.fault.First.{First}
use Rattle.vx_assemble.specs.Feed.{Feeding, EndsAtEnd, HasFed, HasGone}

-- Each unit has a byte of its own, and after a failed read the feed has stopped.
pub record IsInStep (f : Feeding) : Type 0 where
  pub units : f.first ≡ None → f.units + ahead f.reader.splitter ≤ fed f.reader.splitter
  pub fed : fed f.reader.splitter ≤ 2 ^ 40
  pub failed : f.reader.closed ≡ Some Failed → IsSome f.first
  pub held : HoldsFew f.reader
  pub bounded : IsBounded f.assembler

-- A feed with these parts that has not stopped.
abbrev pub feeding : reader.Reading → Held → ℕ → Feeding
feeding r a n = record { reader = r; assembler = a; units = n; first = None }

-- The unit at a place was taken after those before it, with this result; or why it was not.
abbrev pub Accepts : Readers → List Reading → Held → List ℕ → ℕ → Result Taken FeedFault → Type 0
Accepts R before new unit place (Ok (Nal header offset bytes what)) =
    Took (reads R before unit) before new what × (header ≡ header_of unit) × (offset ≡ place) × (bytes ≡ length unit)
Accepts R before new unit place (Ok End) = ⊥
Accepts R before new unit place (Err faults.Memory) = Unit {0}
Accepts R before new unit place (Err (faults.Refused r)) = reads R before unit ≡ Err r
Accepts R before new unit place (Err faults.SourceFailed) = ⊥
Accepts R before new unit place (Err (faults.Stopped f)) = ⊥

-- The fault of an assembler as one of a feed.
abbrev pub fault_of : AssembleFault → FeedFault
fault_of assembler.Memory = faults.Memory
fault_of (assembler.Refused r) = faults.Refused r
fault_of (assembler.Stopped f) = faults.Stopped f

-- The fault of a read as one of a feed.
abbrev pub read_fault : ReadFault → FeedFault
read_fault read_faults.Memory = faults.Memory
read_fault read_faults.SourceFailed = faults.SourceFailed

-- A feed that began to look for the next unit as `old` still looks for it: a piece was read by reads that were needed. Its source
-- had these bytes left and this count of faults then, and has these now.
pub record HasSought (R : Readers) (g : List ℕ) (places : List UnitPlace) (before : List Reading) (f : Feeding)
    (left left' : Option (List ℕ)) : Type 0 where
  pub piece : List ℕ
  pub consumed : Consumes left left' piece
  pub fed : HasFed R f (g ++ piece) places before
  pub needed : reader.LastWasNeeded (g ++ piece) places

pub record Seeks (old f : Feeding) (left left' : Option (List ℕ)) (faults faults' : ℕ) : Type 0 where
  pub seeks : (R : Readers) → AreOfH266 R → (g : List ℕ) (places : List UnitPlace) (before : List Reading) → HasFed R old g places before
      → reader.LastWasNeeded g places → (faults' ≡ faults) × HasSought R g places before f left left'
  pub end : EndsAtEnd old left → EndsAtEnd f left'
  pub stopped : (first : First) → old.first ≡ Some first → (f ≡ old) × (left' ≡ left) × (faults' ≡ faults)
  pub units : f.units ≡ old.units

-- The step of a feed that took this; None for a unit that completes no picture.
abbrev pub step_by : Taken → Option Step
step_by End = Some steps.End
step_by (Nal header place bytes accepted.PictureDone) = Some steps.Picture
step_by (Nal header place bytes accepted.Nothing) = None
step_by (Nal header place bytes accepted.Vps) = None
step_by (Nal header place bytes (accepted.Sps id)) = None
step_by (Nal header place bytes (accepted.Pps id)) = None
step_by (Nal header place bytes (accepted.Aps kind id)) = None

-- A feed that began to look for the next picture as `old` still looks for it: units were taken, and none of them completed one.
pub record HasPassed (R : Readers) (g : List ℕ) (places : List UnitPlace) (before : List Reading) (f : Feeding)
    (left left' : Option (List ℕ)) : Type 0 where
  pub piece : List ℕ
  pub consumed : Consumes left left' piece
  pub readings : List Reading
  pub gone : HasGone R f (g ++ piece) places before readings
  pub same : pictures (readings ++ before) ≡ pictures before

pub record Passes (old f : Feeding) (left left' : Option (List ℕ)) (faults faults' : ℕ) : Type 0 where
  pub passes : (R : Readers) → AreOfH266 R → (g : List ℕ) (places : List UnitPlace) (before : List Reading) → HasFed R old g places before
      → reader.LastWasNeeded g places → (faults' ≡ faults) × HasPassed R g places before f left left'
  pub end : EndsAtEnd old left → EndsAtEnd f left'
  pub stopped : (first : First) → old.first ≡ Some first → (f ≡ old) × (left' ≡ left) × (faults' ≡ faults)
  pub units : old.units ≤ f.units
