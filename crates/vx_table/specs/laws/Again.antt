-- The same bits, values and answers again, for two alike forms all of whose fields are shown, such as those of one structure at
-- scopes that agree.
use Rattle.std.specs.Prelude.{◌≡◌, ℕ, ℤ, Bool, true, IsTrue, List, Result}
use Rattle.vx_bits.specs.declared.list.Item.{Item}
use Rattle.vx_bits.specs.declared.refusal.ReadError.{ReadError}
use Rattle.vx_bits.specs.Place.{Place}
use Rattle.vx_table.specs.declared.rows.Cell.{Cell}
use Rattle.vx_table.specs.declared.rows.Row.{Row}
use Rattle.vx_table.specs.declared.rows.Row.TheVariants.{Field, Block, Name}
use Rattle.vx_table.specs.Forms.{Form, form_of}
use Rattle.vx_table.specs.Parts.{Section, sections_form}
use Rattle.vx_table.specs.EachField.{EachField, rows_pass, sections_pass}
use Rattle.vx_table.specs.Spelling.{Spells, Reaches, items_along}
use Rattle.vx_table.specs.Values.{Follows, bits_along}
use Rattle.vx_table.specs.Reading.{Reads}
use Rattle.vx_table.specs.Depends.{has, Agree, Alike}

-- All fields of a form are shown, including gaps, under the field as which they are reported.
abbrev pub AllShown : List ℕ → Form (List ℕ) → Type 0
AllShown shown form = EachField (λ cell. IsTrue (has shown cell.field)) form

-- All fields of a structure are shown at each scope.
pub record AlwaysShown (shown : List ℕ) (form : List ℕ → Form (List ℕ)) : Type 0 where
  pub at : (s : List ℕ) → AllShown shown (form s)

-- The values that go through a form to an end also go through another, to an end that agrees with it, with the same items and the
-- same bits.
pub record GoesToo (known : List ℕ) (form other : Form (List ℕ)) (values : List ℤ) (end : List ℕ) : Type 0 where
  pub last : List ℕ
  pub follows : Follows other values last
  pub agree : Agree known end last
  pub items : items_along other values ≡ items_along form values
  pub bits : (place : ℕ) → bits_along other place values ≡ bits_along form place values

abbrev pub FollowsAgain : Type 0
FollowsAgain = (shown known : List ℕ) (f g : Form (List ℕ)) (values : List ℤ) (end : List ℕ) → Alike shown known f g → AllShown shown f
    → AllShown shown g → Follows f values end → GoesToo known f g values end

-- Bits that spell values of the one spell them of the other, with the same rest. So do bits up to a field that comes next, which is
-- then refused in the same way, since a refusal depends only on the field and the bits.
abbrev pub ReadsAgain : Type 0
ReadsAgain = (shown known : List ℕ) (f g : Form (List ℕ)) (total : ℕ) (values : List ℤ) (left rest : List Bool) → Alike shown known f g
    → AllShown shown f → AllShown shown g → Spells total f values left rest → Spells total g values left rest

abbrev pub StopsAgain : Type 0
StopsAgain = (shown known : List ℕ) (f g : Form (List ℕ)) (total : ℕ) (values : List ℤ) (left rest : List Bool) (cell : Cell ℕ)
    → Alike shown known f g → AllShown shown f → AllShown shown g → Reaches total f values left cell rest
    → Reaches total g values left cell rest

-- So the whole answer to the same bits is the same: the same items and rest, or the same refusal at the same bit.
abbrev pub AnswersAgain : Type 0
AnswersAgain = (shown known : List ℕ) (f g : Form (List ℕ)) (old new : Place) (items after : List Item)
    (result : Result (Unit {0}) ReadError)
    → Alike shown known f g → AllShown shown f → AllShown shown g → Reads f old items result new after → Reads g old items result new after

-- The test over rows: each field is shown.
unfoldable pub shows_row : List ℕ → Row → Bool
shows_row shown (Field c) = has shown c.field
shows_row shown (Block presence n) = true
shows_row shown (Name name formula) = true

abbrev pub TablesShow : Type 0
TablesShow = (shown : List ℕ) (rows : List Row) → rows_pass (shows_row shown) rows ≡ true → AlwaysShown shown (form_of rows)

abbrev pub SectionsShow : Type 0
SectionsShow = (shown : List ℕ) (sections : List Section) → sections_pass (shows_row shown) sections ≡ true
    → AlwaysShown shown (sections_form sections)
