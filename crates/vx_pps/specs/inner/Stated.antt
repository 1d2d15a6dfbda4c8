-- The new items of a shape, for any groups into which its slices fall; and a set that is made of items.
use Rattle.std.specs.Prelude.{◌≡◌, ℕ, List, ◌++◌, Option, Some, None}
use Rattle.vx_bits.specs.declared.list.Item.{Item}
use Rattle.vx_table.specs.Rewritten.{IsRewritten}
use Rattle.vx_table.specs.Scope.{is_set}
use Rattle.vx_pps.specs.declared.shape.PpsShape.{PpsShape}
use Rattle.vx_pps.specs.Pps.{pps_form}
use Rattle.vx_pps.specs.Reshaped.{IsDivision, front_items, tool_items, whole_flag}

-- For each list of items that can be the fields of tiles and slices.
pub record StatesAll (source : List Item) (shape : PpsShape) (items : List Item) : Type 0 where
  pub all : (division : List Item) → IsDivision (is_set (whole_flag source shape)) shape division
      → items ≡ front_items (whole_flag source shape) shape ++ (division ++ tool_items source shape)

-- The set whose items of some fields, and of the others, are these, if there is one.
abbrev pub PutsTogether : List ℕ → List Item → List Item → Option (List Item) → Type 0
PutsTogether names shown others (Some set) = (items : List Item) → IsRewritten pps_form names shown others items → set ≡ items
PutsTogether names shown others None = (items : List Item) → IsRewritten pps_form names shown others items → ⊥
