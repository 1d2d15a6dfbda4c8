-- How items are applied to a form: the values that they give its fields, and where these lead. Our own. Definitions of what a set's
-- items say rely on it.
use Rattle.std.specs.Prelude.{ℤ, pos, Bool, true, false, List, [], ◌∷◌, Option, Some, None}
use Rattle.vx_bits.specs.declared.list.Item.{Item}
use Rattle.vx_table.specs.Forms.{Form, done, field, has_value}

-- A field takes the next item, and its value decides how the form goes on; a gap takes none, and its value is 0.
abbrev pub with_next : Bool → (ℤ → List Item → List ℤ) → List Item → List ℤ
with_next true on [] = []
with_next true on (item ∷ items) = on item.value items
with_next false on items = on (pos 0) items

-- The values of the fields of a form, in order, in items.
abbrev pub values_in : {A : Type 0} → Form A → List Item → List ℤ
values_in (done a) items = []
values_in (field cell goes) items = with_next (has_value cell.coding) (λ v left. v ∷ values_in (goes v) left) items

-- The end of a form after values.
abbrev pub end_along : {A : Type 0} → Form A → List ℤ → Option A
end_along (done a) values = Some a
end_along (field cell goes) [] = None
end_along (field cell goes) (v ∷ values) = end_along (goes v) values
