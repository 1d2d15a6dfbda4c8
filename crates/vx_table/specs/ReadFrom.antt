-- Structures whose RBSP is known (our own). Contracts of sets that store a short RBSP rely on it.
use Rattle.std.specs.Prelude.{ℕ, List, Option, Ok, IfSome}
use Rattle.vx_bits.specs.declared.list.Item.{Item}
use Rattle.vx_table.specs.Forms.{Form}
use Rattle.vx_table.specs.Reading.{ReadsValue}

-- The RBSP, if it is known, is read as these items.
abbrev pub IsReadFrom : {A : Type 0} → Form A → Option (List ℕ) → List Item → Type 0
IsReadFrom form known items = IfSome known (λ rbsp. ReadsValue form rbsp (Ok items))
