-- The names of fields as text. Our own; the names are those of H.266's syntax tables. The contract of `name_of` relies on it.
use Rattle.std.specs.Prelude.{◌≡◌, ℕ, ◌+◌, List, [], ◌∷◌, length, get_or, slice_range, Contains, Option, Some, None, IsSome, ◌↔◌}
use Rattle.vx_fields.specs.declared.text.TheConstants.{TEXT, PLACES}
use Rattle.vx_fields.specs.laws.Numbers.{numbered_fields}

-- The place in the text of all names where the name of a number begins; for a number above all fields, the end of the text.
abbrev pub place_of_name : ℕ → ℕ
place_of_name n = get_or PLACES n (length TEXT)

-- A name, if it has a character.
abbrev pub name_if_any : List ℕ → Option (List ℕ)
name_if_any [] = None
name_if_any (c ∷ cs) = Some (c ∷ cs)

-- The name of the field with this number: the text from its place up to that of the next number.
unfoldable pub name_of : ℕ → Option (List ℕ)
name_of n = name_if_any (slice_range TEXT (place_of_name n) (place_of_name (n + 1)))

-- Each field has a name, and no other number has one.
abbrev pub FieldsHaveNames : Type 0
FieldsHaveNames = (n : ℕ) → IsSome (name_of n) ↔ Contains numbered_fields n

-- No two numbers have the same name.
abbrev pub NamesAreDistinct : Type 0
NamesAreDistinct = (m n : ℕ) (name : List ℕ) → name_of m ≡ Some name → name_of n ≡ Some name → m ≡ n
