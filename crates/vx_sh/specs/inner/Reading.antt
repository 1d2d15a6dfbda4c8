-- The answer of passing over a part, with the scope that it leaves, and the answer of reading the fields of a slice header.
use Rattle.std.specs.Prelude.{◌≡◌, ℕ, ℤ, List, Result, Ok, Err}
use Rattle.vx_bits.specs.declared.list.Item.{Item}
use Rattle.vx_bits.specs.declared.refusal.ReadError.{ReadError}
use Rattle.vx_bits.specs.declared.refusal.ReadError.TheVariants as errors
use Rattle.vx_bits.specs.Place.{Place}
use Rattle.vx_table.specs.Forms.{Form}
use Rattle.vx_table.specs.Walks.{Walks}
use Rattle.vx_table.specs.Spelling.{Spells}
use Rattle.vx_table.specs.Reading.{PassesField, PassesOver}
use Rattle.vx_sh.specs.Whole.{At, slice_form}
use Rattle.vx_sh.specs.Value.{AreFields, values_of}

abbrev pub IsPassed : Form (List ℕ) → List ℕ → Place → Result (Unit {0}) ReadError → Place → Type 0
IsPassed form end old (Ok u) new = Walks PassesField form old tt (Ok end) new tt
IsPassed form end old (Err errors.Memory) new = ⊥
IsPassed form end old (Err (errors.Refused r)) new = Walks {A = List ℕ} PassesField form old tt (Err r) new tt

pub record FieldsRead (n : At) (old : Place) (end : List ℕ) (new : Place) (items : List Item) : Type 0 where
  pub inside : List ℤ
  pub fields : AreFields n items inside
  pub ends : fields.end ≡ end
  pub spelled : Spells old.total (slice_form n) (values_of fields) old.left new.left
  pub total : new.total ≡ old.total

abbrev pub ReadsFields : At → Place → Result (List ℕ) ReadError → Place → List Item → Type 0
ReadsFields n old (Ok end) new items = FieldsRead n old end new items
ReadsFields n old (Err errors.Memory) new items = Unit {0}
ReadsFields n old (Err (errors.Refused r)) new items = PassesOver {B = Unit {0}} (slice_form n) old (Err r) new
