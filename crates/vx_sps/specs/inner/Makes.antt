-- The result of a rewriter of sets.
use Rattle.std.specs.Prelude.{◌≡◌, List, Result}
use Rattle.vx_bits.specs.declared.list.Item.{Item}
use Rattle.vx_table.specs.declared.writer.SpellError.{SpellError}
use Rattle.vx_table.specs.Rewritten.{IsRewritten}
use Rattle.vx_table.specs.Writing.{IsWritten}
use Rattle.vx_sps.specs.Depends.{taken_sps_fields}
use Rattle.vx_sps.specs.Structure.{sps_form}

-- The set with these items of the fields that are copied, and those of the others, if there is one.
abbrev pub MakesSet : List Item → List Item → Result (Unit {0}) SpellError → List Item → Type 0
MakesSet taken others result after = (items : List Item) → IsRewritten sps_form taken_sps_fields taken others items
    → IsWritten result (after ≡ items)
