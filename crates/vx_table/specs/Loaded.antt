-- The numbers that the items of a structure give its fields. Our own. Definitions of what sets and headers say rely on it.
use Rattle.std.specs.Prelude.{◌≡◌, ℕ, ℤ, ◌<◌, ◌^◌, min, Bool, true, false, not, ◌&&◌, ◌||◌, ◌==◌, nat_lt, nat_le, IsTrue, List, [], ◌∷◌}
use Rattle.std.specs.Prelude.{◌++◌}
use Rattle.std.specs.Prelude.{All, slice_index}
use Rattle.std.specs.Prelude.{map, filter}
use Rattle.vx_bits.specs.declared.list.Item.{Item}
use Rattle.vx_table.specs.declared.rows.Term.TheVariants.{Number}
use Rattle.vx_table.specs.declared.rows.Formula.{Formula}
use Rattle.vx_table.specs.declared.rows.Formula.TheVariants.{Plain}
use Rattle.vx_table.specs.declared.rows.Coding.{Coding}
use Rattle.vx_table.specs.declared.rows.Coding.TheVariants.{Fixed}
use Rattle.vx_table.specs.declared.rows.Limits.{Limits}
use Rattle.vx_table.specs.declared.rows.Limits.TheVariants.{Within, Below, Multiple}
use Rattle.vx_table.specs.declared.rows.Cell.{Cell}
use Rattle.vx_table.specs.declared.rows.Row.{Row}
use Rattle.vx_table.specs.declared.rows.Row.TheVariants.{Field, Block, Name}
use Rattle.vx_table.specs.Scope.{most, fresh, natural, loaded}
use Rattle.vx_table.specs.Forms.{Form, ◌>>=◌, has_value, form_of}
use Rattle.vx_table.specs.Parts.{Section, sections_form}
use Rattle.vx_table.specs.EachField.{EachField, rows_pass, sections_pass}
use Rattle.vx_table.specs.Spelling.{items_along}
use Rattle.vx_table.specs.Values.{IsValueOf, Follows}
use Rattle.vx_table.specs.Depends.{has, Agree}
use Rattle.vx_table.specs.Claims.{hides_counter}
use Rattle.vx_table.specs.Shown.{shown_items}

-- A field's number in a structure's items: that of its last item, and 0 if it has none.
abbrev pub number : List Item → ℕ → ℕ
number items of = slice_index (loaded fresh items) of

abbrev pub NumberOfLast : Type 0
NumberOfLast = (of : ℕ) (v : ℤ) (front behind : List Item) → of < 1024 → All (λ item. (item.field == of) ≡ false) behind
    → number (front ++ record { field = of; value = v } ∷ behind) of ≡ natural v

abbrev pub NumberOfNone : Type 0
NumberOfNone = (of : ℕ) (items : List Item) → All (λ item. (item.field == of) ≡ false) items → number items of ≡ 0

-- The items of any set of fields that has the field give it the same number.
abbrev pub NumberOfShown : Type 0
NumberOfShown = (names : List ℕ) (of : ℕ) (items : List Item) → IsTrue (has names of)
    → number items of ≡ number (shown_items names items) of

-- ---- the scope at the end

-- Where a structure ends, these names have the numbers that its items give them, or otherwise those that they had.
pub record Loads (names : List ℕ) (form : List ℕ → Form (List ℕ)) : Type 0 where
  pub at : (s : List ℕ) (values : List ℤ) (end : List ℕ) → Follows (form s) values end
      → Agree names (loaded s (items_along (form s) values)) end

abbrev pub LoadsTogether : Type 0
LoadsTogether = (names : List ℕ) (first more : List ℕ → Form (List ℕ)) → Loads names first → Loads names more
    → Loads names (λ s. first s >>= more)

-- The test over rows: a row gives one of these names a number only as a field.
unfoldable pub names_none : List ℕ → Row → Bool
names_none names (Field c) = true
names_none names (Block presence n) = hides_counter names presence
names_none names (Name name formula) = not (has names name)

abbrev pub sections_name_none : List ℕ → List Section → Bool
sections_name_none names [] = true
sections_name_none names (section ∷ more) =
    (hides_counter names section.presence && rows_pass (names_none names) section.rows) && sections_name_none names more

abbrev pub TablesLoad : Type 0
TablesLoad = (names : List ℕ) (rows : List Row) → rows_pass (names_none names) rows ≡ true → Loads names (form_of rows)

abbrev pub SectionsLoad : Type 0
SectionsLoad = (names : List ℕ) (sections : List Section) → sections_name_none names sections ≡ true → Loads names (sections_form sections)

-- ---- bounds

-- Values of this field are numbers below a bound.
abbrev pub StaysBelow : ℕ → ℕ → Cell ℕ → Type 0
StaysBelow of bound cell = IsTrue (has_value cell.coding) → cell.field ≡ of → (v : ℤ) → IsValueOf cell v → natural v < bound

-- Then so are the field's items,
abbrev pub IsBelow : ℕ → ℕ → Item → Type 0
IsBelow of bound item = item.field ≡ of → natural item.value < bound

abbrev pub ItemsBelow : Type 0
ItemsBelow = (of bound : ℕ) (form : Form (List ℕ)) (values : List ℤ) (end : List ℕ) → EachField (StaysBelow of bound) form
    → Follows form values end → All (IsBelow of bound) (items_along form values)

-- and the field's number.
abbrev pub NumberBelow : Type 0
NumberBelow = (of bound : ℕ) (form : Form (List ℕ)) (values : List ℤ) (end : List ℕ) → 0 < bound → EachField (StaysBelow of bound) form
    → Follows form values end → number (items_along form values) of < bound

-- The test over rows: the field's code, or its range, gives that bound.
unfoldable pub code_below : ℕ → Coding Formula → Bool
code_below bound (Fixed (Plain (Number n))) = nat_le (2 ^ min n 32) bound
code_below bound coding = nat_lt most bound

unfoldable pub range_below : ℕ → Limits Formula → Bool
range_below bound (Within low (Plain (Number high)) fault) = nat_lt high bound
range_below bound (Below (Plain (Number end)) fault) = nat_le end bound
range_below bound (Multiple unit high fault) = nat_lt high bound
range_below bound limits = false

unfoldable pub row_below : ℕ → ℕ → Row → Bool
row_below of bound (Field c) = not (has_value c.coding && c.field == of) || (code_below bound c.coding || range_below bound c.limits)
row_below of bound (Block presence n) = true
row_below of bound (Name name formula) = true

abbrev pub TablesStayBelow : Type 0
TablesStayBelow = (of bound : ℕ) (rows : List Row) (s : List ℕ) → 0 < bound → rows_pass (row_below of bound) rows ≡ true
    → EachField (StaysBelow of bound) (form_of rows s)

abbrev pub SectionsStayBelow : Type 0
SectionsStayBelow = (of bound : ℕ) (sections : List Section) (s : List ℕ) → 0 < bound → sections_pass (row_below of bound) sections ≡ true
    → EachField (StaysBelow of bound) (sections_form sections s)

-- The numbers of a field's items, in order.
abbrev pub numbers_of : List Item → ℕ → List ℕ
numbers_of items of = map (λ item. natural item.value) (filter (λ item. item.field == of) items)
