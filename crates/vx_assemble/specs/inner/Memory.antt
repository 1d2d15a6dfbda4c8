-- The invariants of a feed of bytes in memory, and its steps.
use Rattle.std.specs.Prelude.{◌≡◌, ℕ, ◌+◌, ◌^◌, ◌≤◌, nat_le, List, [], length, Option, Some, None, Result, Ok, Err}
use Rattle.vx_annexb.specs.Held.{Held as Splitting, ahead, fed, is_all}
use Rattle.vx_annexb.specs.ByteStream.{source_limit, UnitPlace}
use Rattle.vx_annexb.specs.Reading as reader
use Rattle.vx_annexb.specs.declared.header.NalHeader.{NalHeader}
use Rattle.vx_pic.specs.declared.accepted.Accepted.{Accepted}
use Rattle.vx_pic.specs.declared.accepted.Accepted.TheVariants as accepted
use Rattle.vx_pic.specs.Readings.{Reading, Picture}
use Rattle.vx_pic.specs.Bytes.{Ending, AreSourcePictures}
use Rattle.vx_pic.specs.H266.{AreOfH266}
use Rattle.vx_pic.specs.Rules.{Readers}
use Rattle.vx_assemble.specs.declared.fault.AssembleFault.{AssembleFault}
use Rattle.vx_assemble.specs.declared.fault.First.{First}
use Rattle.vx_assemble.specs.declared.feed.Step.{Step}
use Rattle.vx_assemble.specs.declared.feed.Step.TheVariants as steps
use Rattle.vx_assemble.specs.declared.feed.Taken.TheVariants.{Nal, End}
use Rattle.vx_assemble.specs.Held.{IsBounded}
use Rattle.vx_assemble.specs.Feed.{Feeding, Gives, seen_of}
use Rattle.vx_assemble.specs.Memory.{given, HasSeen, Sees}
use Rattle.vx_assemble.specs.inner.Feed.{fault_of}

-- Each unit has a byte of its own.
pub record IsInMemory (f : Feeding) : Type 0 where
  pub units : f.first ≡ None → f.units + ahead f.reader.splitter ≤ fed f.reader.splitter
  pub fed : fed f.reader.splitter ≤ 2 ^ 40
  pub bounded : IsBounded f.assembler

-- A splitter was fed these bytes, as far as the limit, and this number was given.
pub record IsGiven (bytes : List ℕ) (h : Splitting) (n : ℕ) : Type 0 where
  pub front : List ℕ
  pub read : reader.HasRead (given h n) front []
  pub seen : seen_of front ≡ seen_of bytes
  pub all : is_all h ≡ nat_le (length bytes) source_limit

-- A unit was taken, or the end, or why there is none.
abbrev pub GivesUnit : Readers → List ℕ → List UnitPlace → List Reading → Feeding → Result (Option Accepted) AssembleFault → Type 0
GivesUnit R g places before f (Ok (Some what)) =
    (header : NalHeader) × (place : ℕ) × (bytes : ℕ) × Gives R g places before f (Ok (Some (Nal header place bytes what)))
GivesUnit R g places before f (Ok None) = Gives R g places before f (Ok (Some End))
GivesUnit R g places before f (Err fault) = Gives R g places before f (Err (fault_of fault))

-- The step; None for a unit that completes no picture.
abbrev pub step_at : Option Accepted → Option Step
step_at None = Some steps.End
step_at (Some accepted.PictureDone) = Some steps.Picture
step_at (Some accepted.Nothing) = None
step_at (Some accepted.Vps) = None
step_at (Some (accepted.Sps id)) = None
step_at (Some (accepted.Pps id)) = None
step_at (Some (accepted.Aps kind id)) = None

-- It went on, or took a unit that completes no picture.
abbrev pub SeesOn : Readers → List ℕ → List Picture → Option Ending → List Picture → Feeding → Result (Option Step) AssembleFault → Type 0
SeesOn R bytes qs ending ps f (Ok None) = HasSeen R f bytes ps
SeesOn R bytes qs ending ps f (Ok (Some step)) = Sees R bytes qs ending ps f (Ok step)
SeesOn R bytes qs ending ps f (Err fault) = Sees R bytes qs ending ps f (Err fault)

-- A feed that began to look for the next picture as `old` still looks for it.
pub record PassesOn (old f : Feeding) : Type 0 where
  pub passes : (R : Readers) → AreOfH266 R → (bytes : List ℕ) (ps qs : List Picture) (ending : Option Ending) → HasSeen R old bytes ps
      → AreSourcePictures R bytes qs ending → HasSeen R f bytes ps
  pub stopped : (first : First) → old.first ≡ Some first → f ≡ old
