-- The answer of a reader for a form: the value that the bits spell, or the first refusal. Our own. Contracts of all readers of
-- syntax rely on it.
use Rattle.std.specs.Prelude.{◌≡◌, ◌⊎◌, ℕ, ℤ, Bool, List, [], ◌*◌, ◌++◌, length, Result, Ok, Err}
use Rattle.vx_bits.specs.declared.list.Item.{Item}
use Rattle.vx_bits.specs.declared.refusal.Refusal.{Refusal}
use Rattle.vx_bits.specs.declared.refusal.ReadError.{ReadError}
use Rattle.vx_bits.specs.declared.refusal.ReadError.TheVariants as errors
use Rattle.vx_bits.specs.declared.refusal.BitCause.{BitCause}
use Rattle.vx_bits.specs.Codes.{bits_of}
use Rattle.vx_bits.specs.Place.{Place, taken}
use Rattle.vx_table.specs.declared.rows.Coding.{Coding}
use Rattle.vx_table.specs.declared.rows.Cell.{Cell}
use Rattle.vx_table.specs.Forms.{Form}
use Rattle.vx_table.specs.Values.{Follows}
use Rattle.vx_table.specs.Spelling.{BeginsCode, Misses, BeginsField, Spells, Reaches, IsRefusedField, item_of, items_along}

-- The answer of taking the code of one field.
abbrev pub TakesCode : Coding ℕ → Place → Result ℤ BitCause → Place → Type 0
TakesCode coding old (Ok v) new = BeginsCode coding old.total v old.left new.left × (new.total ≡ old.total)
TakesCode coding old (Err cause) new = Misses coding (taken old) old.left cause × (new ≡ old)

-- The answer of taking a field: its value, or its refusal with everything unchanged.
abbrev pub TakesField : Cell ℕ → Place → Result ℤ Refusal → Place → Type 0
TakesField cell old (Ok v) new = BeginsField cell old.total v old.left new.left × (new.total ≡ old.total)
TakesField cell old (Err r) new = IsRefusedField cell old.total old.left r × (new ≡ old)

-- What a reader does at one field; after an error it is still there.
abbrev pub ReadsField : Place → List Item → Cell ℕ → Result ℤ ReadError → Place → List Item → Type 0
ReadsField old items cell (Ok v) new after = BeginsField cell old.total v old.left new.left × (new.total ≡ old.total)
    × (after ≡ items ++ item_of cell v)
ReadsField old items cell (Err errors.Memory) new after = (new ≡ old) × (after ≡ items)
ReadsField old items cell (Err (errors.Refused r)) new after = IsRefusedField cell old.total old.left r × (new ≡ old) × (after ≡ items)

-- The bits between the two places spell values of the form, and their items were gained.
pub record IsFound {A : Type 0} (form : Form A) (old : Place) (items : List Item) (new : Place) (after : List Item) : Type 0 where
  pub values : List ℤ
  pub spelled : Spells old.total form values old.left new.left
  pub total : new.total ≡ old.total
  pub gained : after ≡ items ++ items_along form values

-- The bits between the two places are a prefix of the form's, after which this field comes next, and the items of the prefix were
-- gained.
pub record StopsAt {A : Type 0} (form : Form A) (old : Place) (items : List Item) (new : Place) (after : List Item)
    (cell : Cell ℕ) : Type 0 where
  pub values : List ℤ
  pub reached : Reaches old.total form values old.left cell new.left
  pub total : new.total ≡ old.total
  pub gained : after ≡ items ++ items_along form values

-- The field that comes next is refused there.
pub record IsFirstRefusal {A : Type 0} (form : Form A) (old : Place) (items : List Item) (new : Place) (after : List Item)
    (r : Refusal) : Type 0 where
  pub cell : Cell ℕ
  pub stops : StopsAt form old items new after cell
  pub refused : IsRefusedField cell old.total new.left r

-- What a reader has read when memory runs out: a prefix up to a field that comes next, or all of it, if memory is taken after the
-- last field.
abbrev pub IsCutShort : {A : Type 0} → Form A → Place → List Item → Place → List Item → Type 0
IsCutShort form old items new after = ((cell : Cell ℕ) × StopsAt form old items new after cell) ⊎ IsFound form old items new after

-- The answer of a reader of a form, and where it and the items are then.
abbrev pub IsReadingAnswer : {A B : Type 0} → Form A → Place → List Item → Result B ReadError → Place → List Item → Type 0
IsReadingAnswer form old items (Ok b) new after = IsFound form old items new after
IsReadingAnswer form old items (Err errors.Memory) new after = IsCutShort form old items new after
IsReadingAnswer form old items (Err (errors.Refused r)) new after = IsFirstRefusal form old items new after r

-- The answer of a reader if the bits spell values.
abbrev pub IsAnswered : {B : Type 0} → Result B ReadError → Type 0 → Type 0
IsAnswered (Ok b) P = P
IsAnswered (Err errors.Memory) P = Unit {0}
IsAnswered (Err (errors.Refused r)) P = ⊥

-- The answer of a reader if a field is refused.
abbrev pub IsRefusedWith : {B : Type 0} → Result B ReadError → Refusal → Type 0 → Type 0
IsRefusedWith (Ok b) r P = ⊥
IsRefusedWith (Err errors.Memory) r P = Unit {0}
IsRefusedWith (Err (errors.Refused q)) r P = (q ≡ r) × P

-- The whole answer of a reader, unless memory runs out:
pub record Reads {A B : Type 0} (form : Form A) (old : Place) (items : List Item) (result : Result B ReadError) (new : Place)
    (after : List Item) : Type 0 where
  -- what it answers is true;
  pub is : IsReadingAnswer form old items result new after
  -- if the bits begin with a spelling, then its values are the answer, and exactly that spelling is taken;
  pub only : (values : List ℤ) (rest : List Bool) → Spells old.total form values old.left rest
      → IsAnswered result ((new.left ≡ rest) × (after ≡ items ++ items_along form values))
  -- if the next field after a prefix is refused, then that is the refusal, and the reader is at that field.
  pub refusal : (values : List ℤ) (cell : Cell ℕ) (rest : List Bool) (r : Refusal) → Reaches old.total form values old.left cell rest
      → IsRefusedField cell old.total rest r → IsRefusedWith result r ((new.left ≡ rest) × (after ≡ items ++ items_along form values))

-- The values with whose spelling the bits begin go through the form to this end.
abbrev pub LeadsTo : {A : Type 0} → Form A → Place → A → Type 0
LeadsTo form old end = (values : List ℤ) (rest : List Bool) → Spells old.total form values old.left rest → Follows form values end

-- All bits of bytes, from their start.
abbrev pub at_front : List ℕ → Place
at_front bytes = record { total = 8 * length bytes; left = bits_of bytes }

-- A reader's answer over bytes, from their first bit on, with its items as the value.
abbrev pub ReadsValue : {A : Type 0} → Form A → List ℕ → Result (List Item) ReadError → Type 0
ReadsValue form bytes (Ok items) = (new : Place) × Reads form (at_front bytes) [] (Ok items) new items
ReadsValue form bytes (Err e) = (new : Place) × (items : List Item) × Reads {B = List Item} form (at_front bytes) [] (Err e) new items

-- What passing over a field does: it is taken, and no item is made.
abbrev pub PassesField : Place → Unit {0} → Cell ℕ → Result ℤ Refusal → Place → Unit {0} → Type 0
PassesField old i cell result new j = TakesField cell old result new

-- The corresponding answer of a reader.
abbrev pub as_read : {B : Type 0} → Result B Refusal → Result B ReadError
as_read (Ok b) = Ok b
as_read (Err r) = Err (errors.Refused r)

-- The whole answer of passing over a form: that of a reader, with any items, which takes no memory.
pub record PassesOver {A B : Type 0} (form : Form A) (old : Place) (result : Result B Refusal) (new : Place) : Type 0 where
  pub reads : (items : List Item) → (after : List Item) × Reads form old items (as_read result) new after
