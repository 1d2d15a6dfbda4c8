-- The invariants of a reader, and the steps of a read.
use Rattle.std.specs.Prelude.{◌≡◌, ℕ, ◌+◌, ◌-◌, ◌^◌, List, ◌++◌, Option, Some, None, Result, Ok, Err, length, take}
use Rattle.std.specs.Io.KnownBytes.{Consumes, Keeps, IsAtEnd}
use Rattle.vx_bits.specs.declared.refusal.Refusal.{Refusal}
use Rattle.vx_io.specs.Faults.{Rose}
use Rattle.vx_annexb.specs.declared.unit_reader.Closed.{Closed}
use Rattle.vx_annexb.specs.declared.unit_reader.Closed.TheVariants.{End, TooLong, Failed}
use Rattle.vx_annexb.specs.declared.unit_reader.ReadFault.{ReadFault}
use Rattle.vx_annexb.specs.declared.unit_reader.ReadFault.TheVariants.{Memory, SourceFailed}
use Rattle.vx_annexb.specs.declared.unit_reader.Came.{Came}
use Rattle.vx_annexb.specs.declared.unit_reader.TakeFault.{TakeFault}
use Rattle.vx_annexb.specs.declared.unit_reader.TakeFault.TheVariants.{Memory as OutOfMemory, SourceFailed as ReadFailed}
use Rattle.vx_annexb.specs.ByteStream.{source_limit, UnitPlace}
use Rattle.vx_annexb.specs.Held.{Held, Stands, fed}
use Rattle.vx_annexb.specs.Reading.{Reading, IsOpen, HoldsFew, ClosesAt, HasRead, IsRefusedBy, LastWasNeeded, TakesTo}

-- How many bytes the splitter was fed of the n that were taken.
abbrev pub FedOf : Option Closed → Held → ℕ → Type 0
FedOf (Some TooLong) h n = fed h ≡ 2 ^ 40
FedOf _ h n = fed h ≡ n

-- The invariants of a reader.
pub record IsBounded (r : Reading) : Type 0 where
  pub held : HoldsFew r
  pub closes : ClosesAt r.closed r.splitter r.taken
  pub fed : FedOf r.closed r.splitter r.taken

-- One read of a source with these bytes left and this count of faults, before and after it, by what came.
abbrev pub ReadsPiece : List ℕ → List UnitPlace → Held → Option (List ℕ) → Option (List ℕ) → ℕ → ℕ → Result Came ReadFault → Type 0
ReadsPiece g units new left left' faults faults' (Ok came) =
    (piece : List ℕ) × Consumes left left' piece × (length piece ≡ came.count) × (faults' ≡ faults)
    × Stands new (take source_limit (g ++ piece)) units × (came.closed ≡ Some End → (length piece ≡ 0) × IsAtEnd left')
ReadsPiece g units new left left' faults faults' (Err Memory) =
    (left' ≡ left) × (faults' ≡ faults) × Stands new (take source_limit g) units
ReadsPiece g units new left left' faults faults' (Err SourceFailed) =
    Keeps left left' × Rose faults faults' × Stands new (take source_limit g) units

-- The fault of a read as one of a call that takes a unit.
abbrev pub fault_of : ReadFault → TakeFault
fault_of Memory = OutOfMemory
fault_of SourceFailed = ReadFailed

-- The state of a reader that began to look for the next unit as `old`; its source had these bytes left and this count of faults
-- then, and has these now.
pub record Taking (old r : Reading) (left left' : Option (List ℕ)) (faults faults' : ℕ) : Type 0 where
  pub taking : (g : List ℕ) (units : List UnitPlace) → HasRead old g units → LastWasNeeded g units
      → (faults' ≡ faults) × TakesTo g units r left left'
  pub end : IsOpen old → r.closed ≡ Some End → IsAtEnd left'
  pub again : (g : List ℕ) (units : List UnitPlace) (x : Refusal) → HasRead old g units → IsRefusedBy g units old x
      → HasRead r g units × IsRefusedBy g units r x
  pub still : (g : List ℕ) (units : List UnitPlace) (x : Refusal) → HasRead old g units → IsRefusedBy g units old x
      → (left' ≡ left) × (faults' ≡ faults)
  pub unfailed : r.closed ≡ Some Failed → ⊥

-- The greatest number of reads that a reader may still make.
abbrev pub reads_left : ℕ → Option Closed → ℕ
reads_left taken None = 2 ^ 40 + 1 - taken
reads_left taken (Some _) = 0
