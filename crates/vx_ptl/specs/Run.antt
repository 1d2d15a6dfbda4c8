-- The bits of items of the structures, in their order. The contract of `write_run` relies on it.
use Rattle.std.specs.Prelude.{◌≡◌, ℕ, ℤ, ◌+◌, min, nat_lt, Bool, cond, Option, Some, None}
use Rattle.std.specs.Prelude.{List, [], ◌∷◌, ◌++◌, length, take, replicate, slice_set, slice_index_or}
use Rattle.vx_bits.specs.Codes.{zeros_from}
use Rattle.vx_bits.specs.declared.list.Item.{Item}
use Rattle.vx_table.specs.declared.rows.Term.TheVariants.{Number}
use Rattle.vx_table.specs.declared.rows.Formula.{Formula}
use Rattle.vx_table.specs.declared.rows.Formula.TheVariants.{Plain}
use Rattle.vx_table.specs.declared.rows.Coding.{Coding}
use Rattle.vx_table.specs.declared.rows.Coding.TheVariants.{Fixed, Golomb, SignedGolomb, Zeros}
use Rattle.vx_table.specs.declared.rows.Row.{Row}
use Rattle.vx_table.specs.declared.rows.Row.TheVariants.{Field, Block, Name}
use Rattle.vx_table.specs.Spelling.{HasCode, IsCodable, code_of}
use Rattle.vx_ptl.specs.declared.run.FieldCode.{FieldCode}
use Rattle.vx_ptl.specs.declared.tables.TheConstants.{PTL, DPB, TIMING, SUBLAYER_TIMING}

-- How a row codes its field whatever the scope: no width of these structures depends on one, and a gap is no field.
abbrev pub fixed_coding : Coding Formula → Option (Coding ℕ)
fixed_coding (Fixed (Plain (Number n))) = Some (Fixed (min n 32))
fixed_coding Golomb = Some Golomb
fixed_coding SignedGolomb = Some SignedGolomb
fixed_coding coding = None

-- The zeros up to a byte boundary that come last before a row of a table, by the field as which they are reported; 0 if there are
-- none.
abbrev pub zeros_over : ℕ → Coding Formula → ℕ → ℕ
zeros_over before Zeros field = field
zeros_over before coding field = before

abbrev pub zeros_at : ℕ → Row → ℕ
zeros_at over (Field c) = zeros_over over c.coding c.field
zeros_at over (Block presence n) = over
zeros_at over (Name name formula) = over

-- Each field's coding, and the zeros before it in its table.
abbrev pub code_at : ℕ → Row → List FieldCode → List FieldCode
code_at over (Field c) codes =
    slice_set codes c.field (record { coding = fixed_coding c.coding; zeros = zeros_over over c.coding c.field })
code_at over (Block presence n) codes = codes
code_at over (Name name formula) codes = codes

abbrev pub codes_of : ℕ → List Row → List FieldCode → List FieldCode
codes_of over [] codes = codes
codes_of over (row ∷ rows) codes = codes_of (zeros_at over row) rows (code_at over row codes)

abbrev pub no_code : FieldCode
no_code = record { coding = None; zeros = 0 }

-- By the number of the field.
unfoldable pub field_codes : List FieldCode
field_codes = codes_of 0 SUBLAYER_TIMING (codes_of 0 TIMING (codes_of 0 DPB (codes_of 0 PTL (replicate 64 no_code))))

abbrev pub field_code : ℕ → FieldCode
field_code field = slice_index_or field_codes field no_code

-- They come after an item of a field that precedes these zeros: the numbers of fields rise along a table.
abbrev pub zeros_behind : ℕ → ℕ → ℕ → List Bool
zeros_behind before over place = cond (nat_lt before over) (zeros_from place) []

abbrev pub gap : ℕ → ℕ → ℕ → List Bool
gap before field place = zeros_behind before (field_code field).zeros place

-- If there is a coding, it is at most 32 bits wide.
abbrev pub IsCodableIfAny : Option (Coding ℕ) → Type 0
IsCodableIfAny (Some coding) = IsCodable coding
IsCodableIfAny None = Unit {0}

-- The code of a value at a place.
abbrev pub value_bits : Option (Coding ℕ) → ℕ → ℤ → List Bool
value_bits (Some coding) place v = code_of coding place v
value_bits None place v = []

-- An item's bits at a place, after an item of that field.
unfoldable pub item_bits : ℕ → ℕ → Item → List Bool
item_bits before place item =
    gap before item.field place ++ value_bits (field_code item.field).coding (place + length (gap before item.field place)) item.value

-- The items' bits from a place on.
unfoldable pub run_bits : ℕ → ℕ → List Item → List Bool
run_bits before place [] = []
run_bits before place (item ∷ items) =
    item_bits before place item ++ run_bits item.field (place + length (item_bits before place item)) items

-- The bits grow by a prefix of these: by none, some or all of them.
abbrev pub GrowsByFront : List Bool → List Bool → List Bool → Type 0
GrowsByFront old new bits = (n : ℕ) × (new ≡ old ++ take n bits)

-- The field has a code, and its value has one.
abbrev pub HasBits : Option (Coding ℕ) → ℤ → Type 0
HasBits (Some coding) v = HasCode coding v
HasBits None v = ⊥

unfoldable pub IsRunItem : Item → Type 0
IsRunItem item = HasBits (field_code item.field).coding item.value
