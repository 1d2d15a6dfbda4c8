-- What is read is appended.
use Rattle.std.proofs.Common.{◌≤◌, List, length, Result, Ok, Err, ap, arith}
use Rattle.std.specs.Prelude.{OnOk}
use Rattle.std.proofs.lemmas.List.{length-append}
use Rattle.vx_bits.specs.declared.list.Item.{Item}
use Rattle.vx_bits.specs.declared.refusal.ReadError.{ReadError}
use Rattle.vx_bits.specs.Place.{Place}
use Rattle.vx_table.specs.Forms.{Form}
use Rattle.vx_table.specs.Spelling.{items_along}
use Rattle.vx_table.specs.Reading.{Reads}

pub reads_grow : {A B : Type 0} {form : Form A} {old new : Place} {items after : List Item} (result : Result B ReadError)
    → Reads form old items result new after → OnOk result (length items ≤ length after)
reads_grow {form} {items} (Ok b) r = omega (arith, ap length r.is.gained, length-append items (items_along form r.is.values))
reads_grow (Err e) r = tt
