-- What is read is passed over too.
use Rattle.std.proofs.Common.{List, Ok, Err}
use Rattle.vx_bits.specs.declared.list.Item.{Item}
use Rattle.vx_bits.specs.declared.refusal.Refusal.{Refusal}
use Rattle.vx_bits.specs.declared.refusal.ReadError.TheVariants as errors
use Rattle.vx_bits.specs.Place.{Place}
use Rattle.vx_table.specs.Forms.{Form}
use Rattle.vx_table.specs.Walks.{Walks, ended, coded, refused}
use Rattle.vx_table.specs.Reading.{ReadsField, PassesField}

pub walk_passes : {A : Type 0} {form : Form A} {c d : Place} {i j : List Item} {a : A} → Walks ReadsField form c i (Ok a) d j → Walks PassesField form c tt (Ok a) d tt
walk_passes ended = ended
walk_passes (coded s more) = coded (s.0, s.1) (walk_passes more)

pub walk_refused : {A : Type 0} {form : Form A} {c d : Place} {i j : List Item} {r : Refusal} → Walks {A = A} ReadsField form c i (Err (errors.Refused r)) d j
    → Walks {A = A} PassesField form c tt (Err r) d tt
walk_refused (coded s more) = coded (s.0, s.1) (walk_refused more)
walk_refused (refused s) = refused (s.0, s.1)
