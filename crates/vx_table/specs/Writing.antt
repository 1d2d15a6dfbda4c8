-- The answer of a writer for a form: how the values whose items it is given are written. Our own. Contracts of all writers of
-- syntax rely on it.
use Rattle.std.specs.Prelude.{◌≡◌, ℕ, ℤ, Bool, List, ◌++◌, length, Option, Some, None, Result, Ok, Err}
use Rattle.vx_bits.specs.declared.list.Item.{Item}
use Rattle.vx_table.specs.declared.rows.Coding.{Coding}
use Rattle.vx_table.specs.declared.rows.Cell.{Cell}
use Rattle.vx_table.specs.declared.writer.SpellError.{SpellError}
use Rattle.vx_table.specs.declared.writer.SpellError.TheVariants as errors
use Rattle.vx_table.specs.Forms.{Form}
use Rattle.vx_table.specs.Spelling.{HasCode, code_of, one_item, item_of, items_along}
use Rattle.vx_table.specs.Values.{IsValueOf, Follows, ComesTo, bits_along}

-- The only value of a coding whose item may come next in the items, with those after it; or there is none.
abbrev pub TellsValue : ℕ → Coding ℕ → List Item → Option ℤ → List Item → Type 0
TellsValue of coding items (Some v) left = (items ≡ one_item of coding v ++ left)
    × ((u : ℤ) (more : List Item) → HasCode coding u → items ≡ one_item of coding u ++ more → u ≡ v)
TellsValue of coding items None left = (v : ℤ) (more : List Item) → HasCode coding v → items ≡ one_item of coding v ++ more → ⊥

-- The items that come next are those of no value of the field.
abbrev pub TellsNoValue : Cell ℕ → List Item → Type 0
TellsNoValue cell items = (v : ℤ) (more : List Item) → IsValueOf cell v → items ≡ item_of cell v ++ more → ⊥

-- The answer of taking the value of a field: one that the field may have, whose item is taken, or that none comes next.
abbrev pub TakesValue : Cell ℕ → List Item → Option ℤ → List Item → Type 0
TakesValue cell items (Some v) left = IsValueOf cell v × (items ≡ item_of cell v ++ left)
TakesValue cell items None left = TellsNoValue cell items

-- What a writer does at one field; after an error, bits and items are unchanged.
abbrev pub WritesField : List Bool → List Item → Cell ℕ → Result ℤ SpellError → List Bool → List Item → Type 0
WritesField old items cell (Ok v) new left = IsValueOf cell v × (new ≡ old ++ code_of cell.coding (length old) v)
    × (items ≡ item_of cell v ++ left)
WritesField old items cell (Err errors.Memory) new left = (new ≡ old) × (left ≡ items)
WritesField old items cell (Err errors.NoValue) new left = TellsNoValue cell items × (new ≡ old) × (left ≡ items)

-- What was gained is how values that go through the form to this end are written, and the values' items were taken.
pub record IsSpelled {A X : Type 0} (form : Form A) (spelling : List ℤ → List X) (old : List X) (items : List Item) (new : List X)
    (left : List Item) (end : A) : Type 0 where
  pub values : List ℤ
  pub follows : Follows form values end
  pub gained : new ≡ old ++ spelling values
  pub taken : items ≡ items_along form values ++ left

-- What was gained is how values up to this field, which comes next, are written, and the values' items were taken.
pub record HaltsAt {A X : Type 0} (form : Form A) (spelling : List ℤ → List X) (old : List X) (items : List Item) (new : List X)
    (left : List Item) (cell : Cell ℕ) : Type 0 where
  pub values : List ℤ
  pub comes : ComesTo form values cell
  pub gained : new ≡ old ++ spelling values
  pub taken : items ≡ items_along form values ++ left

-- The answer of a writer of a form, what was gained, and which items are left then.
abbrev pub HasWritten : {A B X : Type 0} → Form A → (List ℤ → List X) → List X → List Item → Result B SpellError → List X → List Item
    → Type 0
HasWritten {A} form spelling old items (Ok b) new left = (end : A) × IsSpelled form spelling old items new left end
HasWritten form spelling old items (Err errors.Memory) new left = (cell : Cell ℕ) × HaltsAt form spelling old items new left cell
HasWritten form spelling old items (Err errors.NoValue) new left = (cell : Cell ℕ) × HaltsAt form spelling old items new left cell
    × TellsNoValue cell left

-- The answer of a writer for items of values.
abbrev pub IsWritten : {B : Type 0} → Result B SpellError → Type 0 → Type 0
IsWritten (Ok b) P = P
IsWritten (Err errors.Memory) P = Unit {0}
IsWritten (Err errors.NoValue) P = ⊥

-- The answer of a writer for other items.
abbrev pub IsRejected : {B : Type 0} → Result B SpellError → Type 0
IsRejected (Ok b) = ⊥
IsRejected (Err e) = Unit {0}

-- The items begin with those of these values, which go through the form to this end.
pub record AreItemsOf {A : Type 0} (form : Form A) (items : List Item) (values : List ℤ) (end : A) (more : List Item) : Type 0 where
  pub follows : Follows form values end
  pub given : items ≡ items_along form values ++ more

-- The whole answer of what writes values in some spelling, unless memory runs out:
pub record WritesAs {A B X : Type 0} (form : Form A) (spelling : List ℤ → List X) (old : List X) (items : List Item)
    (result : Result B SpellError) (new : List X) (left : List Item) : Type 0 where
  -- what it answers is true;
  pub is : HasWritten form spelling old items result new left
  -- if the items begin with those of values that follow the form, then these are spelled, and exactly their items are taken;
  pub only : (values : List ℤ) (end : A) (more : List Item) → AreItemsOf form items values end more
      → IsWritten result ((new ≡ old ++ spelling values) × (left ≡ more))
  -- if they begin with those of no values that follow it, then no value is written.
  pub none : ((values : List ℤ) (end : A) (more : List Item) → AreItemsOf form items values end more → ⊥) → IsRejected result

-- A writer's answer: the values are spelled as bits (the law `read_back` says how these are read).
abbrev pub Writes : {A B : Type 0} → Form A → List Bool → List Item → Result B SpellError → List Bool → List Item → Type 0
Writes form old items result new left = WritesAs form (bits_along form (length old)) old items result new left

-- The values with whose items the items begin go through the form to this end.
abbrev pub ItemsLeadTo : {A : Type 0} → Form A → List Item → A → Type 0
ItemsLeadTo {A} form items end = (values : List ℤ) (other : A) (more : List Item) → AreItemsOf form items values other more → other ≡ end
