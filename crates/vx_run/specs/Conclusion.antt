-- The outcome of a command, and how it ends the program: the status, and the line that says why. Our own.
use Rattle.std.specs.Prelude.{◌≡◌, ◌<◌, ◌≤◌, ℕ, true, false, List, [], ◌∷◌, ◌⊎◌, Result, Ok, Err, codes, decimal}
use Rattle.std.specs.List.{concat}
use Rattle.vx_report.specs.declared.refusal.Where.{Where}
use Rattle.vx_report.specs.RefusalLine.{refusal_text}
use Rattle.vx_verify.specs.Line.{mismatch_text}
use Rattle.vx_run.specs.Change.{Change, HasFault, HasNoFault, IsUntouched, Tells}
use Rattle.vx_run.specs.declared.stop.Place.{Place}
use Rattle.vx_run.specs.declared.stop.Place.TheVariants as places
use Rattle.vx_run.specs.declared.stop.Stop.{Stop}
use Rattle.vx_run.specs.declared.stop.Stop.TheVariants.{NotUnderstood, Refused, Mismatched, ReadFault, WriteFault, NoMemory}

-- It is done, or it stopped.
abbrev pub Outcome : Type 0
Outcome = Result (Unit {0}) Stop

-- 1 for refused or not verified, 2 for arguments, 3 for a fault, 4 for lack of memory.
abbrev pub status_of : Stop → ℕ
status_of NotUnderstood = 2
status_of (Refused refusal place) = 1
status_of (Mismatched mismatch picture) = 1
status_of (ReadFault source) = 3
status_of WriteFault = 3
status_of NoMemory = 4

-- A place as the line of a refusal takes it: a limit at a picture is about what was to be written.
abbrev pub where_told : Place → Where
where_told (places.Unit k n) = record { source = k; unit = n; picture = 0; written = false }
where_told (places.Picture n) = record { source = 0; unit = 0; picture = n; written = true }
where_told places.Words = record { source = 0; unit = 0; picture = 0; written = false }

-- The line, with its line feed.
abbrev pub line_of : Stop → List ℕ
line_of NotUnderstood = codes "words not understood\n"
line_of (Refused refusal place) = refusal_text refusal (where_told place)
line_of (Mismatched mismatch picture) = mismatch_text mismatch picture
line_of (ReadFault source) = concat (codes "read fault source " ∷ decimal source ∷ codes "\n" ∷ [])
line_of WriteFault = codes "write fault\n"
line_of NoMemory = codes "no memory\n"

-- A line of these has parts that are made in memory.
abbrev pub IsMade : Stop → Type 0
IsMade NotUnderstood = ⊥
IsMade (Refused refusal place) = Unit {0}
IsMade (Mismatched mismatch picture) = Unit {0}
IsMade (ReadFault source) = Unit {0}
IsMade WriteFault = ⊥
IsMade NoMemory = ⊥

-- A command that the arguments ask for stopped.
abbrev pub IsOfCommand : Stop → Type 0
IsOfCommand NotUnderstood = ⊥
IsOfCommand _ = Unit {0}

-- The status and the line on `err` are those of the stop, or those for lack of memory.
pub record Concludes {E : Type 0} (stop : Stop) (status : ℕ) (err : Change E) : Type 0 where
  pub ended :
      ((status ≡ status_of stop) × Tells err (line_of stop))
      ⊎ (IsMade stop × (status ≡ status_of NoMemory) × Tells err (line_of NoMemory))

-- The status is 0, with no line, if the command is done.
abbrev pub ExitsWith : {E : Type 0} → Outcome → ℕ → Change E → Type 0
ExitsWith (Ok _) status err = (status ≡ 0) × IsUntouched err
ExitsWith (Err stop) status err = Concludes stop status err

-- How the last write, of what was gathered, ends a command of this status. If it doesn't fail, or if a fault or lack of memory was
-- reported before, the status stays and nothing more is reported. Otherwise it is a write fault.
abbrev pub Finishes : {K E : Type 0} → ℕ → Change K → ℕ → Change E → Type 0
Finishes status last result err =
    ((HasNoFault last ⊎ (1 < status)) × (result ≡ status) × IsUntouched err)
    ⊎ (HasFault last × (status ≤ 1) × Concludes WriteFault result err)
