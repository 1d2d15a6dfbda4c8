-- How callers see a reader of units: a few observable values, and the relation `HasRead` between it, the bytes that it took from a
-- source and the units that it returned. The contracts of `UnitReader` rely on it.
use Rattle.std.specs.Prelude.{◌≡◌, ℕ, ◌+◌, ◌-◌, ◌^◌, ◌<◌, ◌≤◌, ◌⊎◌, min, true, false, List, []}
use Rattle.std.specs.Prelude.{◌∷◌, ◌++◌, Option, Some, None, Result, Ok, Err, length, take, slice_range}
use Rattle.std.specs.Io.KnownBytes.{Consumes, Keeps, IsAtEnd}
use Rattle.vx_bits.specs.declared.refusal.Refusal.{Refusal}
use Rattle.vx_bits.specs.declared.refusal.Refusal.TheVariants.{Limit}
use Rattle.vx_bits.specs.declared.rules.TheConstants.{LONG_SOURCE}
use Rattle.vx_io.specs.Faults.{Rose}
use Rattle.vx_bits.specs.Limits.{unit_limit}
use Rattle.vx_annexb.specs.declared.span.Span.{Span}
use Rattle.vx_annexb.specs.declared.unit_reader.Closed.{Closed}
use Rattle.vx_annexb.specs.declared.unit_reader.Closed.TheVariants.{End, TooLong, Failed}
use Rattle.vx_annexb.specs.declared.unit_reader.ReadFault.{ReadFault}
use Rattle.vx_annexb.specs.declared.unit_reader.ReadFault.TheVariants.{Memory, SourceFailed}
use Rattle.vx_annexb.specs.declared.unit_reader.TakeFault.{TakeFault}
use Rattle.vx_annexb.specs.declared.unit_reader.TakeFault.TheVariants.{Refused, Memory as OutOfMemory, SourceFailed as ReadFailed}
use Rattle.vx_annexb.specs.ByteStream.{source_limit, UnitPlace, unit_bytes, IsStream}
use Rattle.vx_annexb.specs.Held.{Held, Stands, held, lent, is_all, place_of}

-- A reader: its splitter, how many bytes it took, and why it reads no more.
pub record Reading : Type 0 where
  pub splitter : Held
  pub taken : ℕ
  pub closed : Option Closed

-- The reader may read on.
abbrev pub IsOpen : Reading → Type 0
IsOpen r = r.closed ≡ None

-- The bound on the bytes that it holds, apart from the room for a read.
abbrev pub HoldsFew : Reading → Type 0
HoldsFew r = held r.splitter ≤ unit_limit + 2 + 65536

-- Why it reads no more, by the n bytes that it took: they are all there are; or they are one more than the limit, which is not
-- looked at; or a read failed.
abbrev pub ClosesAt : Option Closed → Held → ℕ → Type 0
ClosesAt None h n = (is_all h ≡ false) × (n ≤ 2 ^ 40)
ClosesAt (Some End) h n = (is_all h ≡ true) × (n ≤ 2 ^ 40)
ClosesAt (Some TooLong) h n = (is_all h ≡ false) × (n ≡ 2 ^ 40 + 1)
ClosesAt (Some Failed) h n = (is_all h ≡ false) × (n ≤ 2 ^ 40)

-- g are the bytes that it took, and these are the units that it returned.
pub record HasRead (r : Reading) (g : List ℕ) (units : List UnitPlace) : Type 0 where
  pub taken : length g ≡ r.taken
  pub closes : ClosesAt r.closed r.splitter r.taken
  pub stands : Stands r.splitter (take source_limit g) units

-- What was read is refused for x after these units: a rule is broken, or no rule is broken within the limit and the source has
-- more bytes.
abbrev pub IsRefusedBy : List ℕ → List UnitPlace → Reading → Refusal → Type 0
IsRefusedBy g units r x =
    IsStream (take source_limit g) (is_all r.splitter) units (Some x)
    ⊎ (IsStream (take source_limit g) false units None × (r.closed ≡ Some TooLong) × (x ≡ Limit LONG_SOURCE))

-- The next unit in what was read: one whose end is seen, or none, or a refusal.
abbrev pub Finds : List ℕ → List UnitPlace → Reading → Result (Option Span) Refusal → Type 0
Finds g units r (Ok (Some span)) =
    HasRead r g (units ++ place_of span ∷ [])
    × (unit_bytes (take source_limit g) (place_of span) ≡ slice_range (lent r.splitter) span.start span.end)
Finds g units r (Ok None) =
    HasRead r g units × IsStream (take source_limit g) (is_all r.splitter) units None × (r.closed ≡ Some TooLong → ⊥)
Finds g units r (Err x) = HasRead r g units × IsRefusedBy g units r x

-- One read of a source with these bytes left and this count of faults, before and after it.
abbrev pub Reads : List ℕ → List UnitPlace → Reading → Option (List ℕ) → Option (List ℕ) → ℕ → ℕ → Result (Unit {0}) ReadFault → Type 0
Reads g units new left left' faults faults' (Ok _) =
    (piece : List ℕ) × Consumes left left' piece × (length piece ≤ 65536) × (faults' ≡ faults)
    × HasRead new (g ++ piece) units × (new.closed ≡ Some End → (length piece ≡ 0) × IsAtEnd left') × (new.closed ≡ Some Failed → ⊥)
Reads g units new left left' faults faults' (Err Memory) = (left' ≡ left) × (faults' ≡ faults) × HasRead new g units × IsOpen new
Reads g units new left left' faults faults' (Err SourceFailed) =
    Keeps left left' × Rose faults faults' × HasRead new g units × (new.closed ≡ Some Failed)

-- How many of n bytes are taken in place of a read, after those that were taken before: at most as many as a read asks for, and
-- in all at most one more than the limit.
abbrev pub fed_at_once : (taken n : ℕ) → ℕ
fed_at_once taken n = min (min n 65536) (2 ^ 40 + 1 - taken)

-- The last read was needed: its piece of at most 65,536 bytes came after bytes in which no unit was seen except the first of
-- these.
pub record LastWasNeeded (g : List ℕ) (units : List UnitPlace) : Type 0 where
  pub before : List ℕ
  pub piece : List ℕ
  pub given : List UnitPlace
  pub later : List UnitPlace
  pub bytes : g ≡ before ++ piece
  pub few : length piece ≤ 65536
  pub within : length before ≤ 2 ^ 40
  pub split : units ≡ given ++ later
  pub seen : IsStream (take source_limit before) false given None

-- After the bytes g, a piece of the source was taken by reads that were needed, and these are the units returned by then.
pub record TakesTo (g : List ℕ) (units : List UnitPlace) (new : Reading) (left left' : Option (List ℕ)) : Type 0 where
  pub piece : List ℕ
  pub consumed : Consumes left left' piece
  pub read : HasRead new (g ++ piece) units
  pub needed : LastWasNeeded (g ++ piece) units

-- The next unit of a source with these bytes left and this count of faults, before and after the call.
abbrev pub Takes : List ℕ → List UnitPlace → Reading → Option (List ℕ) → Option (List ℕ) → ℕ → ℕ → Result (Option Span) TakeFault → Type 0
Takes g units new left left' faults faults' (Ok (Some span)) =
    (faults' ≡ faults)
    × ((t : TakesTo g (units ++ place_of span ∷ []) new left left')
    × (unit_bytes (take source_limit (g ++ t.piece)) (place_of span) ≡ slice_range (lent new.splitter) span.start span.end)
    × (length (g ++ t.piece) < (place_of span).end + 3 + 65536))
Takes g units new left left' faults faults' (Ok None) =
    (faults' ≡ faults)
    × ((t : TakesTo g units new left left') × IsStream (take source_limit (g ++ t.piece)) true units None × (new.closed ≡ Some End))
Takes g units new left left' faults faults' (Err (Refused x)) =
    (faults' ≡ faults) × ((t : TakesTo g units new left left') × IsRefusedBy (g ++ t.piece) units new x)
Takes g units new left left' faults faults' (Err OutOfMemory) = (faults' ≡ faults) × TakesTo g units new left left'
Takes g units new left left' faults faults' (Err ReadFailed) =
    Rose faults faults'
    × ((t : TakesTo g units new left left') × IsStream (take source_limit (g ++ t.piece)) false units None × (new.closed ≡ Some Failed))
