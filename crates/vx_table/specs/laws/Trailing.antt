-- What may follow the values of a table: anything if it has no trailing, nothing if it ends in one; and how structures end.
use Rattle.std.specs.Prelude.{◌≡◌, ℕ, ℤ, ◌+◌, ◌%◌, Bool, true, false, ◌||◌, ◌&&◌, not, nat_lt, List, [], ◌∷◌, ◌++◌, length}
use Rattle.vx_bits.specs.Codes.{bits_of, one_from, EndsInNoZero}
use Rattle.vx_table.specs.declared.rows.Coding.{Coding}
use Rattle.vx_table.specs.declared.rows.Coding.TheVariants.{OneAndZeros, Trailing}
use Rattle.vx_table.specs.declared.rows.Row.{Row}
use Rattle.vx_table.specs.declared.rows.Row.TheVariants.{Field, Block, Name}
use Rattle.vx_table.specs.declared.rows.Presence.{Presence}
use Rattle.vx_table.specs.declared.rows.Presence.TheVariants.{When, Repeat}
use Rattle.vx_table.specs.declared.parts.Part.{Part}
use Rattle.vx_table.specs.Forms.{Form, ◌>>=◌, form_of}
use Rattle.vx_table.specs.Parts.{Section, sections_form, parts_form}
use Rattle.vx_table.specs.Values.{Follows, bits_along, Closes}
use Rattle.vx_table.specs.Claims.{comes_always}

unfoldable pub is_trailing : {N : Type 0} → Coding N → Bool
is_trailing Trailing = true
is_trailing coding = false

-- Some row is a trailing.
unfoldable pub has_trailing : List Row → Bool
has_trailing [] = false
has_trailing (Field c ∷ rows) = is_trailing c.coding || has_trailing rows
has_trailing (row ∷ rows) = has_trailing rows

-- If no row is one, then anything may follow the values of the table.
abbrev pub ClosesWithoutTrailing : Type 0
ClosesWithoutTrailing = (rows : List Row) (s : List ℕ) (place : ℕ) (values : List ℤ) (rest : List Bool) → has_trailing rows ≡ false
    → Closes (form_of rows s) place values rest

-- No row except the last one, which is in no block, is a trailing.
unfoldable pub trails_last : List Row → Bool
trails_last [] = true
trails_last (Field c ∷ []) = true
trails_last (Field c ∷ row ∷ rows) = not (is_trailing c.coding) && trails_last (row ∷ rows)
trails_last (Block presence n ∷ rows) = (nat_lt n (length rows) || not (has_trailing rows)) && trails_last rows
trails_last (row ∷ rows) = trails_last rows

-- If that holds, then the values of the table may end the bits.
abbrev pub ClosesAtTheEnd : Type 0
ClosesAtTheEnd = (rows : List Row) (s : List ℕ) (place : ℕ) (values : List ℤ) → trails_last rows ≡ true
    → Closes (form_of rows s) place values []

-- The same for a structure of several tables.
abbrev pub comes_once : Presence → Bool
comes_once (When holds) = true
comes_once (Repeat counter times) = false

unfoldable pub parts_have_trailing : List Part → Bool
parts_have_trailing [] = false
parts_have_trailing (part ∷ parts) = has_trailing part.rows.now || parts_have_trailing parts

unfoldable pub parts_trail_last : List Part → Bool
parts_trail_last [] = true
parts_trail_last (part ∷ []) = comes_once part.presence && trails_last part.rows.now
parts_trail_last (part ∷ next ∷ parts) = not (has_trailing part.rows.now) && parts_trail_last (next ∷ parts)

abbrev pub PartsCloseWithoutTrailing : Type 0
PartsCloseWithoutTrailing = (parts : List Part) (s : List ℕ) (place : ℕ) (values : List ℤ) (rest : List Bool)
    → parts_have_trailing parts ≡ false → Closes (parts_form parts s) place values rest

abbrev pub PartsCloseAtTheEnd : Type 0
PartsCloseAtTheEnd = (parts : List Part) (s : List ℕ) (place : ℕ) (values : List ℤ) → parts_trail_last parts ≡ true
    → Closes (parts_form parts s) place values []

-- ---- how structures end

-- The last bits, after a place, are a one and zeros up to the byte boundary.
pub record EndsWithStop (place : ℕ) (bits : List Bool) : Type 0 where
  pub front : List Bool
  pub all : bits ≡ front ++ one_from (place + length front)

-- Wherever a structure begins, its bits end in this way.
pub record EndsInStop {A : Type 0} (form : Form A) : Type 0 where
  pub at : (place : ℕ) (values : List ℤ) (end : A) → Follows form values end → EndsWithStop place (bits_along form place values)

-- So do those of a table whose last row, in no block, is a one and zeros, or a trailing,
unfoldable pub is_stop : {N : Type 0} → Coding N → Bool
is_stop OneAndZeros = true
is_stop Trailing = true
is_stop coding = false

unfoldable pub ends_in_stop : List Row → Bool
ends_in_stop [] = false
ends_in_stop (Field c ∷ []) = is_stop c.coding
ends_in_stop (Field c ∷ row ∷ rows) = ends_in_stop (row ∷ rows)
ends_in_stop (Block presence n ∷ rows) = nat_lt n (length rows) && ends_in_stop rows
ends_in_stop (Name name formula ∷ rows) = ends_in_stop rows

abbrev pub TablesStop : Type 0
TablesStop = (rows : List Row) (s : List ℕ) → ends_in_stop rows ≡ true → EndsInStop (form_of rows s)

-- those of a structure whose last table is one and is always present,
unfoldable pub sections_end_in_stop : List Section → Bool
sections_end_in_stop [] = false
sections_end_in_stop (section ∷ []) = comes_always section.presence && ends_in_stop section.rows
sections_end_in_stop (section ∷ next ∷ more) = sections_end_in_stop (next ∷ more)

abbrev pub SectionsStop : Type 0
SectionsStop = (sections : List Section) (s : List ℕ) → sections_end_in_stop sections ≡ true → EndsInStop (sections_form sections s)

-- and those of a structure that ends in one that does.
abbrev pub StopsTogether : Type 0
StopsTogether = (form : Form (List ℕ)) (next : List ℕ → Form (List ℕ)) → ((s : List ℕ) → EndsInStop (next s)) → EndsInStop (form >>= next)

-- Such bits end at a byte boundary, and the last of their bytes isn't 00.
abbrev pub StopsAtBoundary : Type 0
StopsAtBoundary = (place : ℕ) (bits : List Bool) → EndsWithStop place bits → (place + length bits) % 8 ≡ 0

abbrev pub StopsInNoZero : Type 0
StopsInNoZero = (bytes : List ℕ) → EndsWithStop 0 (bits_of bytes) → EndsInNoZero bytes
