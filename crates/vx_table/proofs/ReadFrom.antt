-- Structures whose RBSP is known.
use Rattle.std.proofs.Common.{◌≡◌, ℕ, List, Option, Some, None, Ok, sym, subst}
use Rattle.std.specs.Prelude.{IfSome}
use Rattle.vx_bits.specs.declared.list.Item.{Item}
use Rattle.vx_table.specs.Forms.{Form}
use Rattle.vx_table.specs.ReadFrom.{IsReadFrom}
use Rattle.vx_table.specs.Reading.{ReadsValue}

pub read_from : {A : Type 0} (form : Form A) (rbsp : List ℕ) (items : List Item) (known : Option (List ℕ))
    → IfSome known (λ b. b ≡ rbsp) → ReadsValue form rbsp (Ok items) → IsReadFrom form known items
read_from form rbsp items None same read = tt
read_from form rbsp items (Some b) same read = subst (λ (x : List ℕ). ReadsValue form x (Ok items)) (sym same) read
