-- The shown fields of a structure, their items and how they are coded, and what two structures with alike forms have in common. Our
-- own. Laws on what sets and headers depend on rely on it.
use Rattle.std.specs.Prelude.{◌≡◌, ℕ, ℤ, Bool, true, cond, not, ◌||◌, IsTrue, List, [], ◌∷◌, ◌++◌, filter}
use Rattle.vx_bits.specs.declared.list.Item.{Item}
use Rattle.vx_table.specs.declared.rows.Cell.{Cell}
use Rattle.vx_table.specs.Scope.{loaded}
use Rattle.vx_table.specs.Forms.{Form, done, field, ◌>>=◌}
use Rattle.vx_table.specs.Parts.{Section}
use Rattle.vx_table.specs.EachField.{EachField, rows_pass, sections_pass}
use Rattle.vx_table.specs.Spelling.{items_along}
use Rattle.vx_table.specs.Values.{Follows}
use Rattle.vx_table.specs.Depends.{has, Agree, Alike, DependsOnlyOn}
use Rattle.vx_table.specs.Kept.{stands_for_field, kept_along}
use Rattle.vx_table.specs.declared.rows.Row.{Row}
use Rattle.vx_table.specs.declared.rows.Row.TheVariants.{Field, Block, Name}

-- The items of shown fields.
abbrev pub shown_items : List ℕ → List Item → List Item
shown_items shown items = filter (λ item. has shown item.field) items

-- The shown fields that values go through, in order, each with its coding and its range.
abbrev pub shown_cells : List ℕ → Form (List ℕ) → List ℤ → List (Cell ℕ)
shown_cells shown (done s) w = []
shown_cells shown (field cell goes) [] = []
shown_cells shown (field cell goes) (v ∷ w) = cond (has shown cell.field) (cell ∷ shown_cells shown (goes v) w)
    (shown_cells shown (goes v) w)

-- Values of alike forms with the same shown items have the same shown fields, with the same codings and ranges, and leave scopes
-- that agree.
abbrev pub CellsFollowItems : Type 0
CellsFollowItems = (shown known : List ℕ) (f g : Form (List ℕ)) (v w : List ℤ) (s t : List ℕ) → Alike shown known f g → Follows f v s
    → Follows g w t → shown_items shown (items_along f v) ≡ shown_items shown (items_along g w)
    → (shown_cells shown f v ≡ shown_cells shown g w) × Agree known s t

-- Items with the same shown ones lead from scopes that agree to scopes that agree.
abbrev pub ScopesFollowItems : Type 0
ScopesFollowItems = (names s t : List ℕ) (items others : List Item) → Agree names s t → shown_items names items ≡ shown_items names others
    → Agree names (loaded s items) (loaded t others)

-- Alike structures after alike ones are alike.
abbrev pub AlikeTogether : Type 0
AlikeTogether = (shown mid known : List ℕ) (f g : Form (List ℕ)) (next other : List ℕ → Form (List ℕ)) → Alike shown mid f g
    → ((s t : List ℕ) → Agree mid s t → Alike shown known (next s) (other t)) → Alike shown known (f >>= next) (g >>= other)

-- A form keeps exactly the shown ones of its fields.
abbrev pub IsKeptWhereShown : List ℕ → Cell ℕ → Type 0
IsKeptWhereShown shown cell = IsTrue (stands_for_field cell.coding) → cell.kept ≡ has shown cell.field

abbrev pub KeepsShown : List ℕ → Form (List ℕ) → Type 0
KeepsShown shown form = EachField (IsKeptWhereShown shown) form

-- Then values of alike forms with the same kept items have the same kept fields, with the same codings and ranges.
abbrev pub CellsFollowKept : Type 0
CellsFollowKept = (shown known : List ℕ) (f g : Form (List ℕ)) (v w : List ℤ) (s t : List ℕ) → Alike shown known f g → KeepsShown shown f
    → KeepsShown shown g → Follows f v s → Follows g w t → kept_along f v ≡ kept_along g w
    → (shown_cells shown f v ≡ shown_cells shown g w) × Agree known s t

-- The test over rows: a field has a star exactly if it isn't shown.
unfoldable pub star_tells : List ℕ → Row → Bool
star_tells shown (Field c) = not (stands_for_field c.coding) || cond c.kept (has shown c.field) (not (has shown c.field))
star_tells shown (Block presence n) = true
star_tells shown (Name name formula) = true

abbrev pub stars_tell : List ℕ → List Row → Bool
stars_tell shown rows = rows_pass (star_tells shown) rows

abbrev pub sections_stars_tell : List ℕ → List Section → Bool
sections_stars_tell shown sections = sections_pass (star_tells shown) sections

-- At each scope a form keeps exactly the shown ones of its fields.
pub record KeepsOnly (given shown : List ℕ) (form : List ℕ → Form (List ℕ)) : Type 0 where
  pub keeps : (s : List ℕ) → KeepsShown (given ++ shown) (form s)

-- Kept fields depend only on kept fields and on the given numbers. If a form keeps what is shown, and the shown depend only on the
-- given, then equal kept items at scopes that agree on the given come from equal kept fields, with equal codings and ranges.
abbrev pub KeptTellsKept : Type 0
KeptTellsKept = (given shown : List ℕ) (form : List ℕ → Form (List ℕ)) (s t a b : List ℕ) (v w : List ℤ) → DependsOnlyOn given shown form
    → KeepsOnly given shown form → Agree given s t → Follows (form s) v a → Follows (form t) w b
    → kept_along (form s) v ≡ kept_along (form t) w
    → (shown_cells (given ++ shown) (form s) v ≡ shown_cells (given ++ shown) (form t) w)
    × Agree given a b
