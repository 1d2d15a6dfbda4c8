-- The range in numbers that rows give a field, and that the field's items lie in it.
use Rattle.std.specs.Prelude.{◌≡◌, ℕ, ℤ, pos, Bool, true, false, not, ◌&&◌, ◌||◌, ◌==◌, int_le, IsTrue, List, All, None}
use Rattle.vx_bits.specs.declared.list.Item.{Item}
use Rattle.vx_table.specs.declared.rows.Term.TheVariants.{Number}
use Rattle.vx_table.specs.declared.rows.Formula.{Formula}
use Rattle.vx_table.specs.declared.rows.Formula.TheVariants.{Plain}
use Rattle.vx_table.specs.declared.rows.Limits.{Limits}
use Rattle.vx_table.specs.declared.rows.Limits.TheVariants.{Within, Multiple}
use Rattle.vx_table.specs.declared.rows.Cell.{Cell}
use Rattle.vx_table.specs.declared.rows.Row.{Row}
use Rattle.vx_table.specs.declared.rows.Row.TheVariants.{Field, Block, Name}
use Rattle.vx_table.specs.Forms.{has_value, form_of}
use Rattle.vx_table.specs.Parts.{Section, sections_form}
use Rattle.vx_table.specs.Spelling.{fault_of, items_along}
use Rattle.vx_table.specs.Values.{Follows}
use Rattle.vx_table.specs.EachField.{rows_pass, sections_pass}

-- A value from one number to another.
abbrev pub lies : ℕ → ℕ → ℤ → Bool
lies low high v = int_le (pos low) v && int_le v (pos high)

-- An item of this field lies there.
abbrev pub LiesIn : ℕ → ℕ → ℕ → Item → Type 0
LiesIn of low high item = item.field ≡ of → IsTrue (lies low high item.value)

-- Values of this field that are in its range lie there.
abbrev pub KeepsRange : ℕ → ℕ → ℕ → Cell ℕ → Type 0
KeepsRange of low high cell = IsTrue (has_value cell.coding) → cell.field ≡ of → (v : ℤ) → fault_of cell.limits v ≡ None
    → IsTrue (lies low high v)

-- The range is this one; multiples of a unit begin with 1.
abbrev pub is_range : ℕ → ℕ → Limits Formula → Bool
is_range low high (Within (pos l) (Plain (Number h)) fault) = (l == low) && (h == high)
is_range low high (Multiple unit h fault) = (1 == low) && (h == high)
is_range low high limits = false

-- A row of this field says so; a gap, which may share its number with a field, says nothing.
abbrev pub tells_range : ℕ → ℕ → ℕ → Row → Bool
tells_range of low high (Field c) = not (has_value c.coding && c.field == of) || is_range low high c.limits
tells_range of low high (Block presence n) = true
tells_range of low high (Name name formula) = true

-- If each row of the field says so, then its items lie there.
abbrev pub LieInRange : Type 0
LieInRange = (of low high : ℕ) (rows : List Row) (s : List ℕ) (values : List ℤ) (end : List ℕ)
    → rows_pass (tells_range of low high) rows ≡ true → Follows (form_of rows s) values end
    → All (LiesIn of low high) (items_along (form_of rows s) values)

abbrev pub PartsLieInRange : Type 0
PartsLieInRange = (of low high : ℕ) (sections : List Section) (s : List ℕ) (values : List ℤ) (end : List ℕ)
    → sections_pass (tells_range of low high) sections ≡ true → Follows (sections_form sections s) values end
    → All (LiesIn of low high) (items_along (sections_form sections s) values)
