-- The result of a rewriter of headers.
use Rattle.std.specs.Prelude.{◌≡◌, ℕ, List, Result}
use Rattle.vx_bits.specs.declared.list.Item.{Item}
use Rattle.vx_table.specs.declared.writer.SpellError.{SpellError}
use Rattle.vx_table.specs.Forms.{Form}
use Rattle.vx_table.specs.Rewritten.{IsRewritten}
use Rattle.vx_table.specs.Writing.{IsWritten}

-- The structure with these items of some fields, and these of the others, if there is one.
abbrev pub Makes : Form (List ℕ) → List ℕ → List Item → List Item → Result (Unit {0}) SpellError → List Item → Type 0
Makes form fields stated kept result after =
    (items : List Item) → IsRewritten form fields stated kept items → IsWritten result (after ≡ items)
