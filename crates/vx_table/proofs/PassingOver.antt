-- Passing over a form is reading it, whatever the items.
use Rattle.std.proofs.Common.{List, [], ◌++◌, Result, Ok, Err, refl}
use Rattle.std.specs.Prelude.{OnOk}
use Rattle.vx_bits.specs.declared.list.Item.{Item}
use Rattle.vx_bits.specs.declared.refusal.Refusal.{Refusal}
use Rattle.vx_bits.specs.Place.{Place}
use Rattle.vx_table.specs.Forms.{Form}
use Rattle.vx_table.specs.Walks.{Walks, ended, coded, refused, leaving}
use Rattle.vx_table.specs.Spelling.{item_of}
use Rattle.vx_table.specs.Reading.{ReadsField, PassesField, as_read, PassesOver, LeadsTo}
use Rattle.vx_table.proofs.Readings.{reads, leads}

passed : {A : Type 0} {form : Form A} {old new : Place} {i j : Unit {0}} {result : Result A Refusal} → Walks PassesField form old i result new j → (items : List Item)
    → (after : List Item) × Walks ReadsField form old items (as_read result) new after
passed ended items = (items, ended)
passed (coded {cell} {v} s walk) items =
    let more = passed walk (items ++ item_of cell v) in
    (more.0, coded (s.0, s.1, refl) more.1)
passed (refused s) items = (items, refused (s.0, s.1, refl))

passed_leaving : {A B : Type 0} {form : Form A} {old new : Place} {i j : Unit {0}} (a : A) (result : Result B Refusal) → Walks PassesField form old i (leaving a result) new j → (items : List Item)
    → (after : List Item) × Walks ReadsField form old items (leaving a (as_read result)) new after
passed_leaving a (Ok b) walk items = passed walk items
passed_leaving a (Err r) walk items = passed walk items

pub passes : {A B : Type 0} {form : Form A} {old new : Place} {i j : Unit {0}} (a : A) (result : Result B Refusal) → Walks PassesField form old i (leaving a result) new j → PassesOver form old result new
passes a result walk = record {
  reads = λ items. let read = passed_leaving a result walk items in (read.0, reads a (as_read result) read.1);
}

pub passes_to : {A B : Type 0} {form : Form A} {old new : Place} {i j : Unit {0}} (a : A) (result : Result B Refusal) → Walks PassesField form old i (leaving a result) new j → OnOk result (LeadsTo form old a)
passes_to a (Ok b) walk = leads a (Ok b) (passed_leaving a (Ok b) walk []).1
passes_to a (Err r) walk = tt
