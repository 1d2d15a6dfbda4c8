-- An item that is loaded into a scope, unless its field is below another one.
use Rattle.std.specs.Prelude.{ℕ, cond, nat_lt, List, slice_set}
use Rattle.vx_bits.specs.declared.list.Item.{Item}
use Rattle.vx_table.specs.Scope.{natural}

abbrev pub loaded_at : ℕ → List ℕ → Item → List ℕ
loaded_at from s item = cond (nat_lt item.field from) s (slice_set s item.field (natural item.value))
