-- Look-up in a list of fields. Our own. The contract of `first` relies on it.
use Rattle.std.specs.Prelude.{ℕ, ℤ, ◌==◌, List, Option, option_map, find}
use Rattle.vx_bits.specs.declared.list.Item.{Item}

-- The value of the first item of a field.
abbrev pub first_value : List Item → ℕ → Option ℤ
first_value items field = option_map (λ item. item.value) (find (λ item. item.field == field) items)
