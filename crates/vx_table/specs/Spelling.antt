-- How values are spelled, and where and why bits are refused, stated for forms and apart from any walk. All readers and writers of
-- syntax rely on it.
use Rattle.std.specs.Int.RustNames.{unsigned_abs}
use Rattle.std.specs.Prelude.{◌≡◌, ◌≢◌, ℕ, ℤ, pos, negsuc, zero, suc, ◌-◌, ◌%◌, ◌^◌, ◌<◌, ◌≤◌, Bool, false, cond, ◌&&◌, ◌==◌, List, []}
use Rattle.std.specs.Prelude.{◌∷◌, ◌++◌, length, Option, Some, None}
use Rattle.std.specs.Prelude.{int_le, int_lt}
use Rattle.vx_bits.specs.Codes.{fixed, exp_golomb, signed_exp_golomb, code_number, IsCodeNumber, zeros_from, one_from, BeginsWith}
use Rattle.vx_bits.specs.Codes.{EndsWithinCode, BeginsTooLong}
use Rattle.vx_bits.specs.declared.list.Item.{Item}
use Rattle.vx_bits.specs.declared.refusal.BitCause.{BitCause}
use Rattle.vx_bits.specs.declared.refusal.BitCause.TheVariants as causes
use Rattle.vx_bits.specs.declared.refusal.Refusal.{Refusal}
use Rattle.vx_bits.specs.declared.refusal.Refusal.TheVariants as refusals
use Rattle.vx_table.specs.declared.rows.Coding.{Coding}
use Rattle.vx_table.specs.declared.rows.Coding.TheVariants.{Fixed, Golomb, SignedGolomb, Zeros, OneAndZeros, Trailing, Absent, Refused}
use Rattle.vx_table.specs.declared.rows.Fault.{Fault}
use Rattle.vx_table.specs.declared.rows.Fault.TheVariants as faults
use Rattle.vx_table.specs.declared.rows.Limits.{Limits}
use Rattle.vx_table.specs.declared.rows.Limits.TheVariants.{Any, Within, Below, Multiple}
use Rattle.vx_table.specs.declared.rows.Cell.{Cell}
use Rattle.vx_table.specs.Forms.{Form, done, field, has_value}

-- The values that a coding has; a gap counts as a value 0 (H.266 clauses 7.2 and 9.2).
unfoldable pub HasCode : Coding ℕ → ℤ → Type 0
HasCode (Fixed n) (pos v) = v < 2 ^ n
HasCode (Fixed n) (negsuc v) = ⊥
HasCode Golomb (pos v) = IsCodeNumber v
HasCode Golomb (negsuc v) = ⊥
HasCode SignedGolomb v = IsCodeNumber (code_number v)
HasCode Zeros v = v ≡ pos 0
HasCode OneAndZeros v = v ≡ pos 0
HasCode Trailing v = v ≡ pos 0
HasCode Absent v = v ≡ pos 0
HasCode Refused v = ⊥

-- The bits of a value at a place of the structure's bits (7.2, 9.2).
unfoldable pub code_of : Coding ℕ → ℕ → ℤ → List Bool
code_of (Fixed n) place v = fixed n (unsigned_abs v)
code_of Golomb place v = exp_golomb (unsigned_abs v)
code_of SignedGolomb place v = signed_exp_golomb v
code_of Zeros place v = zeros_from place
code_of OneAndZeros place v = one_from place
code_of Trailing place v = one_from place
code_of Absent place v = []
code_of Refused place v = []

-- After a trailing nothing may follow (rbsp_trailing_bits( ), 7.3.2).
unfoldable pub MayEnd : Coding ℕ → List Bool → Type 0
MayEnd Trailing rest = rest ≡ []
MayEnd coding rest = Unit {0}

-- The bits that are left, out of `total`, begin with the code of the value, and the rest comes after it (7.2, 9.2).
pub record BeginsCode (coding : Coding ℕ) (total : ℕ) (v : ℤ) (left rest : List Bool) : Type 0 where
  pub value : HasCode coding v
  pub bits : left ≡ code_of coding (total - length left) v ++ rest
  pub end : MayEnd coding rest

-- No field is wider than 32 bits.
abbrev pub IsCodable : Coding ℕ → Type 0
IsCodable (Fixed n) = n ≤ 32
IsCodable coding = Unit {0}

-- The value is 1, 2, 3 .. times the unit (our own).
abbrev pub is_multiple : ℕ → ℤ → Bool
is_multiple unit (pos zero) = false
is_multiple unit (pos (suc v)) = suc v % unit == 0
is_multiple unit (negsuc v) = false

-- The fault of a value outside the range (ranges, 7.4).
unfoldable pub fault_of : Limits ℕ → ℤ → Option Fault
fault_of Any v = None
fault_of (Within low high fault) v = cond (int_le low v && int_le v (pos high)) None (Some fault)
fault_of (Below bound fault) v = cond (int_le (pos 0) v && int_lt v (pos bound)) None (Some fault)
fault_of (Multiple unit high fault) v = cond (int_le v (pos high)) (cond (is_multiple unit v) None (Some faults.OutOfRange)) (Some fault)

-- The bits begin with the field: with the code of a value in its range (7.2, 7.4).
pub record BeginsField (cell : Cell ℕ) (total : ℕ) (v : ℤ) (left rest : List Bool) : Type 0 where
  pub code : BeginsCode cell.coding total v left rest
  pub range : fault_of cell.limits v ≡ None

-- The bits that are left, up to the rest, spell these values, which go through the form to its end (7.1, 7.2).
pub data Spells {A : Type 0} (total : ℕ) : Form A → List ℤ → List Bool → List Bool → Type 0 where
  at_end : {a : A} {rest : List Bool} → Spells total (done a) [] rest rest
  behind : {cell : Cell ℕ} {goes : ℤ → Form A} {v : ℤ} {w : List ℤ} {left mid rest : List Bool}
      → BeginsField cell total v left mid → Spells total (goes v) w mid rest → Spells total (field cell goes) (v ∷ w) left rest

-- The bits spell these values up to a field that comes next, where the rest begins (7.1, 7.2).
pub data Reaches {A : Type 0} (total : ℕ) : Form A → List ℤ → List Bool → Cell ℕ → List Bool → Type 0 where
  here : {cell : Cell ℕ} {goes : ℤ → Form A} {rest : List Bool} → Reaches total (field cell goes) [] rest cell rest
  later : {cell next : Cell ℕ} {goes : ℤ → Form A} {v : ℤ} {w : List ℤ} {left mid rest : List Bool}
      → BeginsField cell total v left mid → Reaches total (goes v) w mid next rest → Reaches total (field cell goes) (v ∷ w) left next rest

-- No code of this kind begins here, for this cause (our own).
unfoldable pub Misses : Coding ℕ → ℕ → List Bool → BitCause → Type 0
Misses (Fixed n) place left causes.Short = length left < n
Misses Golomb place left causes.Short = EndsWithinCode left
Misses Golomb place left causes.LongCode = BeginsTooLong left
Misses SignedGolomb place left causes.Short = EndsWithinCode left
Misses SignedGolomb place left causes.LongCode = BeginsTooLong left
Misses Zeros place left causes.BadAlignment = ¬ BeginsWith left (zeros_from place)
Misses OneAndZeros place left causes.Short = left ≡ []
Misses OneAndZeros place left causes.BadAlignment = (left ≢ []) × (¬ BeginsWith left (one_from place))
Misses Trailing place left causes.Short = left ≡ []
Misses Trailing place left causes.BadTrailing = (left ≢ []) × (left ≢ one_from place)
Misses Refused place left causes.OutOfRange = Unit {0}
Misses coding place left cause = ⊥

-- The refusal as which a fault is reported, at a field and a bit (our own).
unfoldable pub reported : Fault → ℕ → ℕ → Refusal
reported faults.OutOfRange of bit = refusals.Syntax of bit causes.OutOfRange
reported (faults.Profile code) of bit = refusals.Profile code
reported (faults.Limit code) of bit = refusals.Limit code
reported (faults.Structure code) of bit = refusals.Structure code 0 0

-- The field is refused where the rest begins: no code begins there, or that of a value outside the range (our own).
pub data IsRefusedField (cell : Cell ℕ) (total : ℕ) (rest : List Bool) : Refusal → Type 0 where
  missed : {cause : BitCause} → Misses cell.coding (total - length rest) rest cause
      → IsRefusedField cell total rest (refusals.Syntax cell.field (total - length rest) cause)
  broken : {v : ℤ} {behind : List Bool} {fault : Fault} → BeginsCode cell.coding total v rest behind → fault_of cell.limits v ≡ Some fault
      → IsRefusedField cell total rest (reported fault cell.field (total - length rest))

-- A value as an item; a gap has none (our own).
abbrev pub one_item : ℕ → Coding ℕ → ℤ → List Item
one_item of coding v = cond (has_value coding) (record { field = of; value = v } ∷ []) []

-- The item of a field (our own).
unfoldable pub item_of : Cell ℕ → ℤ → List Item
item_of cell v = one_item cell.field cell.coding v

-- The items of values that go along a form (our own).
abbrev pub items_along : {A : Type 0} → Form A → List ℤ → List Item
items_along (done a) w = []
items_along (field cell goes) [] = []
items_along (field cell goes) (v ∷ w) = item_of cell v ++ items_along (goes v) w
