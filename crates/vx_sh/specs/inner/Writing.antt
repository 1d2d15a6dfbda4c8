-- The answer of writing a part with given values, and what writing the fields of a slice header does.
use Rattle.std.specs.Prelude.{◌≡◌, ℕ, ℤ, Bool, List, ◌++◌, length, Result, Ok, Err}
use Rattle.vx_bits.specs.declared.list.Item.{Item}
use Rattle.vx_table.specs.declared.writer.SpellError.{SpellError}
use Rattle.vx_table.specs.declared.writer.SpellError.TheVariants as errors
use Rattle.vx_table.specs.Forms.{Form}
use Rattle.vx_table.specs.Values.{bits_along}
use Rattle.vx_sh.specs.Whole.{At, slice_form}
use Rattle.vx_sh.specs.Value.{IsSliceOf, values_of}

-- The values are written, exactly their items are taken, and this is the scope at their end.
pub record PartIsWritten (form : Form (List ℕ)) (values : List ℤ) (end : List ℕ) (more : List Item) (old : List Bool) (scope : List ℕ)
    (new : List Bool) (left : List Item) : Type 0 where
  pub bits : new ≡ old ++ bits_along form (length old) values
  pub items : left ≡ more
  pub ends : scope ≡ end

-- A writer with suitable items finds a value each time.
abbrev pub HasFailed : SpellError → Type 0
HasFailed errors.Memory = Unit {0}
HasFailed errors.NoValue = ⊥

abbrev pub WritesPart : Form (List ℕ) → List ℤ → List ℕ → List Item → List Bool → List ℕ → Result (Unit {0}) SpellError → List Bool
    → List Item → Type 0
WritesPart form values end more old scope (Ok u) new left = PartIsWritten form values end more old scope new left
WritesPart form values end more old scope (Err e) new left = HasFailed e

abbrev pub WritesFields : At → List Item → List Item → Result (Unit {0}) SpellError → List Bool → Type 0
WritesFields n fields header (Ok u) new = (is : IsSliceOf n fields header) × (new ≡ bits_along (slice_form n) 0 (values_of is.slice))
WritesFields n fields header (Err e) new = HasFailed e
