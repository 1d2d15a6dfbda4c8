-- The kept items of a structure: those of the fields that stay unchanged when it is rewritten. Our own. The contract of
-- `keep_table`, and those of sets, rely on it.
use Rattle.std.specs.Prelude.{◌≡◌, ℕ, ℤ, Bool, true, false, cond, ◌&&◌, List, [], ◌∷◌, ◌++◌, Result, Ok, Err}
use Rattle.vx_bits.specs.declared.list.Item.{Item}
use Rattle.vx_table.specs.declared.rows.Coding.{Coding}
use Rattle.vx_table.specs.declared.rows.Coding.TheVariants.{Fixed, Golomb, SignedGolomb, Zeros, OneAndZeros, Trailing, Absent, Refused}
use Rattle.vx_table.specs.declared.rows.Cell.{Cell}
use Rattle.vx_table.specs.declared.writer.SpellError.{SpellError}
use Rattle.vx_table.specs.declared.writer.SpellError.TheVariants as errors
use Rattle.vx_table.specs.Forms.{Form, done, field}
use Rattle.vx_table.specs.Spelling.{item_of}
use Rattle.vx_table.specs.Values.{IsValueOf}
use Rattle.vx_table.specs.Writing.{TellsNoValue, WritesAs}

-- A field, or an absent one that counts among the kept ones, and no gap.
unfoldable pub stands_for_field : {N : Type 0} → Coding N → Bool
stands_for_field (Fixed width) = true
stands_for_field Golomb = true
stands_for_field SignedGolomb = true
stands_for_field Zeros = false
stands_for_field OneAndZeros = false
stands_for_field Trailing = false
stands_for_field Absent = true
stands_for_field Refused = false

-- The item of a kept field; that of an absent one is 0, its only value.
abbrev pub kept_item : Cell ℕ → ℤ → List Item
kept_item cell v = cond (cell.kept && stands_for_field cell.coding) (record { field = cell.field; value = v } ∷ []) []

-- The kept items of values that go along a form.
abbrev pub kept_along : {A : Type 0} → Form A → List ℤ → List Item
kept_along (done a) w = []
kept_along (field cell goes) [] = []
kept_along (field cell goes) (v ∷ w) = kept_item cell v ++ kept_along (goes v) w

-- What selection does at one field: its item is taken, and kept if the field is kept; after an error everything is unchanged.
abbrev pub KeepsField : List Item → List Item → Cell ℕ → Result ℤ SpellError → List Item → List Item → Type 0
KeepsField items into cell (Ok v) left new = IsValueOf cell v × (items ≡ item_of cell v ++ left) × (new ≡ into ++ kept_item cell v)
KeepsField items into cell (Err errors.Memory) left new = (new ≡ into) × (left ≡ items)
KeepsField items into cell (Err errors.NoValue) left new = TellsNoValue cell items × (new ≡ into) × (left ≡ items)

-- The whole answer of selection: that of a writer which writes values as their kept items.
abbrev pub Keeps : {A B : Type 0} → Form A → List Item → List Item → Result B SpellError → List Item → List Item → Type 0
Keeps form into items result new left = WritesAs form (kept_along form) into items result new left
