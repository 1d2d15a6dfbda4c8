-- A rewritten structure: some fields as in another value of it, the others as given; and what makes it. Our own. Contracts of
-- rewriters of sets and headers rely on it.
use Rattle.std.specs.Prelude.{◌≡◌, ℕ, ℤ, Bool, true, not, ◌&&◌, ◌||◌, IsTrue, List, [], ◌++◌, filter, Option, Some, None, Result, Ok, Err}
use Rattle.std.specs.Prelude.{cond}
use Rattle.vx_bits.specs.declared.list.Item.{Item}
use Rattle.vx_table.specs.declared.rows.Cell.{Cell}
use Rattle.vx_table.specs.declared.writer.SpellError.{SpellError}
use Rattle.vx_table.specs.declared.writer.SpellError.TheVariants as errors
use Rattle.vx_table.specs.declared.rows.Row.{Row}
use Rattle.vx_table.specs.declared.rows.Row.TheVariants.{Field, Block, Name}
use Rattle.vx_table.specs.Forms.{Form, has_value}
use Rattle.vx_table.specs.Parts.{Section, sections_form}
use Rattle.vx_table.specs.EachField.{EachField, sections_pass}
use Rattle.vx_table.specs.Kept.{stands_for_field, kept_along}
use Rattle.vx_table.specs.Spelling.{item_of, items_along}
use Rattle.vx_table.specs.Values.{IsValueOf, Follows, ComesTo}
use Rattle.vx_table.specs.Writing.{IsWritten}
use Rattle.vx_table.specs.Depends.{has, Inside}
use Rattle.vx_table.specs.Shown.{shown_items, KeepsShown}

-- The items of the fields that aren't in a set.
abbrev pub other_items : List ℕ → List Item → List Item
other_items names items = filter (λ item. not (has names item.field)) items

-- The items are those of a value of the form. Those of the fields in a set are these, and the others are those, each in order.
pub record IsRewritten {A : Type 0} (form : Form A) (names : List ℕ) (shown others items : List Item) : Type 0 where
  pub values : List ℤ
  pub end : A
  pub follows : Follows form values end
  pub all : items ≡ items_along form values
  pub shown_ones : shown_items names items ≡ shown
  pub other_ones : other_items names items ≡ others

-- They are the only ones.
abbrev pub RewritesOneWay : Type 0
RewritesOneWay = (form : Form (List ℕ)) (names : List ℕ) (shown others a b : List Item) → IsRewritten form names shown others a
    → IsRewritten form names shown others b → a ≡ b

-- What is rewritten has the same kept items, if the set has each kept field and no kept row represents an absent field.
abbrev pub FillsNone : Cell ℕ → Type 0
FillsNone cell = IsTrue (cell.kept && stands_for_field cell.coding) → IsTrue (has_value cell.coding)

unfoldable pub fills_none : Row → Bool
fills_none (Field c) = not (c.kept && stands_for_field c.coding) || has_value c.coding
fills_none (Block presence n) = true
fills_none (Name name formula) = true

abbrev pub RewrittenKeeps : Type 0
RewrittenKeeps = (kept names : List ℕ) (f g : Form (List ℕ)) (v w : List ℤ) (a b : List ℕ) → Inside kept names → KeepsShown kept f
    → KeepsShown kept g → EachField FillsNone f → EachField FillsNone g → Follows f v a → Follows g w b
    → shown_items names (items_along f v) ≡ shown_items names (items_along g w) → kept_along f v ≡ kept_along g w

abbrev pub SectionsFillNone : Type 0
SectionsFillNone = (sections : List Section) (s : List ℕ) → sections_pass fills_none sections ≡ true
    → EachField FillsNone (sections_form sections s)

-- ---- what makes it

-- What a rewriter takes items from: the next ones of the fields in a set, and the next ones of the others.
pub record Sources : Type 0 where
  pub names : List ℕ
  pub shown : List Item
  pub others : List Item

-- Items come next there, each among those of its kind; after them others are left.
pub record TakesItems (items : List Item) (old new : Sources) : Type 0 where
  pub names : new.names ≡ old.names
  pub shown : old.shown ≡ shown_items old.names items ++ new.shown
  pub others : old.others ≡ other_items old.names items ++ new.others

-- The items that come next are those of no value of the field.
abbrev pub HasNoItem : Cell ℕ → Sources → Type 0
HasNoItem cell old = (v : ℤ) (more : Sources) → IsValueOf cell v → TakesItems (item_of cell v) old more → ⊥

-- The answer of taking the value of a field.
abbrev pub TakesNext : Cell ℕ → Sources → Option ℤ → Sources → Type 0
TakesNext cell old (Some v) new = IsValueOf cell v × TakesItems (item_of cell v) old new
TakesNext cell old None new = HasNoItem cell old

-- What a rewriter does at one field: its item is taken and appended; after an error nothing is appended.
abbrev pub RewritesField : Sources → List Item → Cell ℕ → Result ℤ SpellError → Sources → List Item → Type 0
RewritesField old into cell (Ok v) new after = IsValueOf cell v × TakesItems (item_of cell v) old new × (after ≡ into ++ item_of cell v)
RewritesField old into cell (Err errors.Memory) new after = after ≡ into
RewritesField old into cell (Err errors.NoValue) new after = HasNoItem cell old × (after ≡ into)

-- The items of values that go through the form to this end come next, and these are left after them.
pub record AreTaken {A : Type 0} (form : Form A) (old : Sources) (values : List ℤ) (end : A) (new : Sources) : Type 0 where
  pub follows : Follows form values end
  pub taken : TakesItems (items_along form values) old new

-- What was appended are the items of values up to a field that comes next.
pub record BreaksOff {A : Type 0} (form : Form A) (into after : List Item) : Type 0 where
  pub values : List ℤ
  pub cell : Cell ℕ
  pub comes : ComesTo form values cell
  pub gained : after ≡ into ++ items_along form values

-- The answer of a rewriter of a form.
abbrev pub HasRewritten : {A B : Type 0} → Form A → Sources → List Item → Result B SpellError → Sources → List Item → Type 0
HasRewritten {A} form old into (Ok b) new after = (values : List ℤ) × (end : A) × AreTaken form old values end new
    × (after ≡ into ++ items_along form values)
HasRewritten form old into (Err e) new after = BreaksOff form into after

-- The whole answer of a rewriter, unless memory runs out:
pub record RewritesInto {A B : Type 0} (form : Form A) (old : Sources) (into : List Item) (result : Result B SpellError) (new : Sources)
    (after : List Item) : Type 0 where
  -- what it answers is true: the items of values that come next are taken and appended;
  pub is : HasRewritten form old into result new after
  -- if the items of values come next, then these are taken and appended, and no others.
  pub only : (values : List ℤ) (end : A) (more : Sources) → AreTaken form old values end more
      → IsWritten result ((after ≡ into ++ items_along form values) × (new ≡ more))

-- So from the items that a rewritten structure has of each kind it makes that structure,
abbrev pub MakesRewritten : Type 0
MakesRewritten = (form : Form (List ℕ)) (old new : Sources) (items after : List Item) (result : Result (Unit {0}) SpellError)
    → RewritesInto form old [] result new after → IsRewritten form old.names old.shown old.others items → IsWritten result (after ≡ items)

-- and what it makes of all items is a rewritten structure.
abbrev pub MadeIsRewritten : Type 0
MadeIsRewritten = (form : Form (List ℕ)) (old new : Sources) (after : List Item)
    → RewritesInto {B = Unit {0}} form old [] (Ok tt) new after → new.shown ≡ [] → new.others ≡ []
    → IsRewritten form old.names old.shown old.others after

-- Items that are present only if a condition holds.
abbrev pub where_so : Bool → List Item → List Item
where_so holds items = cond holds items []
