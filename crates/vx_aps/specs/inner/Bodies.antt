-- The fields of bytes, taken apart.
use Rattle.std.specs.Prelude.{ℕ, ◌-◌, ◌==◌, cond, List, [], ◌∷◌, length, slice_index, Option, Some, None}
use Rattle.vx_bits.specs.declared.list.Item.{Item}
use Rattle.vx_aps.specs.Fields.{type_item, id_item}

-- The length of a body, unless it can't end a unit.
abbrev pub body_seen : List ℕ → Option ℕ
body_seen body = cond (length body == 0) None (cond (slice_index body (length body - 1) == 0) None (Some (length body)))

-- The items of a type, and of an id.
abbrev pub items_seen : ℕ → Option ℕ → List Item
items_seen kind None = type_item kind ∷ []
items_seen kind (Some id) = type_item kind ∷ id_item id ∷ []
