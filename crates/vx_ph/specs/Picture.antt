-- A picture header as a value: what is read and what is written of it. The contracts of `read_ph` and `write_header` rely on it.
use Rattle.std.specs.Prelude.{◌≡◌, ℕ, ℤ, Bool, List, [], ◌++◌, length, Result, Ok, Err}
use Rattle.vx_bits.specs.declared.list.Item.{Item}
use Rattle.vx_bits.specs.declared.refusal.ReadError.{ReadError}
use Rattle.vx_bits.specs.Codes.{bits_of}
use Rattle.vx_bits.specs.Place.{Place}
use Rattle.vx_table.specs.declared.rows.Cell.{Cell}
use Rattle.vx_table.specs.Forms.{Form, ◌>>=◌, form_of}
use Rattle.vx_table.specs.Spelling.{items_along}
use Rattle.vx_table.specs.Values.{Follows, bits_along}
use Rattle.vx_table.specs.Reading.{Reads, at_front}
use Rattle.vx_table.specs.Writing.{HaltsAt}
use Rattle.vx_rpl.specs.declared.entry.RplTable.{RplTable}
use Rattle.vx_rpl.specs.HeaderLists.{lists_of}
use Rattle.vx_ph.specs.declared.header.PictureHeader.{PictureHeader}
use Rattle.vx_ph.specs.declared.tables.TheConstants.{TRAILING}
use Rattle.vx_ph.specs.Header.{header_form}

-- The items are those of a header: of values that go through its form to this end.
pub record ArePictureHeaderFields (table : RplTable) (s : List ℕ) (items : List Item) : Type 0 where
  pub values : List ℤ
  pub end : List ℕ
  pub follows : Follows (header_form table s) values end
  pub all : items ≡ items_along (header_form table s) values

-- A header has such fields, and the lists that these determine.
pub record IsHeader (table : RplTable) (s : List ℕ) (header : PictureHeader) : Type 0 where
  pub fields : ArePictureHeaderFields table s header.fields
  pub lists : header.lists ≡ lists_of table s header.fields

-- The answer of a reader of a header.
abbrev pub ReadsHeader : RplTable → List ℕ → Place → Result PictureHeader ReadError → Place → Type 0
ReadsHeader table s old (Ok header) new =
    Reads {B = Unit {0}} (header_form table s) old [] (Ok tt) new header.fields × (header.lists ≡ lists_of table s header.fields)
ReadsHeader table s old (Err e) new = (items : List Item) × Reads {B = Unit {0}} (header_form table s) old [] (Err e) new items

-- What was gained is the spelling of the header,
pub record IsPictureHeaderSpelling (table : RplTable) (s : List ℕ) (header : PictureHeader) (old new : List Bool) : Type 0 where
  pub fields : ArePictureHeaderFields table s header.fields
  pub gained : new ≡ old ++ bits_along (header_form table s) (length old) fields.values

-- or of a prefix of it.
abbrev pub IsPictureHeaderFront : RplTable → List ℕ → PictureHeader → List Bool → List Bool → Type 0
IsPictureHeaderFront table s header old new =
    (cell : Cell ℕ) × ((left : List Item)
    × HaltsAt (header_form table s) (bits_along (header_form table s) (length old)) old header.fields new left cell)

-- picture_header_rbsp( ) (7.3.2.7): the header, and a trailing.
unfoldable pub unit_form : RplTable → List ℕ → Form (List ℕ)
unit_form table s = header_form table s >>= form_of TRAILING

-- The answer of a reader of an RBSP that is such a unit: its header, or the first refusal.
abbrev pub ReadsUnit : RplTable → List ℕ → List ℕ → Result PictureHeader ReadError → Type 0
ReadsUnit table s rbsp (Ok header) = ((new : Place) × Reads {B = Unit {0}} (unit_form table s) (at_front rbsp) [] (Ok tt) new header.fields)
    × (header.lists ≡ lists_of table s header.fields)
ReadsUnit table s rbsp (Err e) =
    (new : Place) × ((items : List Item) × Reads {B = Unit {0}} (unit_form table s) (at_front rbsp) [] (Err e) new items)

-- The bytes are the unit's (7.3.2.7).
pub record IsPictureHeaderUnit (table : RplTable) (s : List ℕ) (header : PictureHeader) (bytes : List ℕ) : Type 0 where
  pub values : List ℤ
  pub end : List ℕ
  pub follows : Follows (unit_form table s) values end
  pub all : header.fields ≡ items_along (unit_form table s) values
  pub bits : bits_of bytes ≡ bits_along (unit_form table s) 0 values

-- The bytes of a unit are read as its header.
abbrev pub UnitIsRead : Type 0
UnitIsRead = (table : RplTable) (s : List ℕ) (header : PictureHeader) (bytes : List ℕ) → IsHeader table s header
    → IsPictureHeaderUnit table s header bytes → ReadsUnit table s bytes (Ok header)
