-- Fields that are read, in steps.
use Rattle.std.specs.Prelude.{Bool, true, false, List, [], ◌∷◌, Result, Ok, Err}
use Rattle.vx_bits.specs.declared.list.Item.{Item}
use Rattle.vx_bits.specs.declared.refusal.ReadError.{ReadError}
use Rattle.vx_bits.specs.declared.refusal.ReadError.TheVariants as errors
use Rattle.vx_assemble.specs.Fields.{inside_item}

-- Memory didn't run out.
abbrev pub HasAnswered : Result (Unit {0}) ReadError → Type 0
HasAnswered (Ok done) = Unit {0}
HasAnswered (Err errors.Memory) = ⊥
HasAnswered (Err (errors.Refused r)) = Unit {0}

-- What comes before a picture header, inside a slice.
abbrev pub head_items : Bool → List Item
head_items true = inside_item ∷ []
head_items false = []
