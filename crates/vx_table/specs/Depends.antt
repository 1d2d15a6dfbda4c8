-- Which numbers of the scope a structure depends on, and that it depends on no others. Our own. Laws of all syntax structures rely
-- on it.
use Rattle.std.specs.Prelude.{◌≡◌, ℕ, ℤ, Bool, ◌==◌, IsTrue, IsFalse, List, ◌++◌, length, slice_index}
use Rattle.std.specs.List.{list_any}
use Rattle.vx_table.specs.declared.rows.Cell.{Cell}
use Rattle.vx_table.specs.Forms.{Form, done, field}

-- A set of fields and names is a list, and has its members.
abbrev pub has : List ℕ → ℕ → Bool
has names n = list_any (λ name. name == n) names

-- One set is contained in another.
pub record Inside (names more : List ℕ) : Type 0 where
  pub has_too : (n : ℕ) → IsTrue (has names n) → IsTrue (has more n)

-- Two scopes give each of these names the same number.
pub record Agree (names s t : List ℕ) : Type 0 where
  pub size : length s ≡ length t
  pub same : (n : ℕ) → IsTrue (has names n) → slice_index s n ≡ slice_index t n

-- Two forms have the same shown fields, each with the same coding and range, after the same values of the shown fields before it
-- and any values of the others, and scopes that agree at the ends.
pub data Alike (shown known : List ℕ) : Form (List ℕ) → Form (List ℕ) → Type 0 where
  at_ends : {s t : List ℕ} → Agree known s t → Alike shown known (done s) (done t)
  both : {cell : Cell ℕ} {goes other : ℤ → Form (List ℕ)} → IsTrue (has shown cell.field)
      → ((v : ℤ) → Alike shown known (goes v) (other v)) → Alike shown known (field cell goes) (field cell other)
  hidden_left : {cell : Cell ℕ} {goes : ℤ → Form (List ℕ)} {g : Form (List ℕ)} → IsFalse (has shown cell.field)
      → ((v : ℤ) → Alike shown known (goes v) g) → Alike shown known (field cell goes) g
  hidden_right : {cell : Cell ℕ} {f : Form (List ℕ)} {goes : ℤ → Form (List ℕ)} → IsFalse (has shown cell.field)
      → ((v : ℤ) → Alike shown known f (goes v)) → Alike shown known f (field cell goes)

-- The shown fields and names of a form depend only on the given numbers: at scopes that agree on these, it is alike.
pub record DependsOnlyOn (given shown : List ℕ) (form : List ℕ → Form (List ℕ)) : Type 0 where
  pub alike : (s t : List ℕ) → Agree given s t → Alike (given ++ shown) given (form s) (form t)

-- The same, with what is known before and after the form: at scopes that agree on the former, all of it shown, the forms are alike,
-- and agree on the latter at their ends.
pub record Carries (shown before after : List ℕ) (form : List ℕ → Form (List ℕ)) : Type 0 where
  pub alike : Inside before shown → (s t : List ℕ) → Agree before s t → Alike shown after (form s) (form t)
  pub inside : Inside before shown → Inside after shown
  pub grows : Inside before after

-- A form at a scope has no field of these names, and at its ends they have the numbers that they have there.
abbrev pub IsLeft : List ℕ → List ℕ → Form (List ℕ) → Type 0
IsLeft names s (done t) = Agree names s t
IsLeft names s (field cell goes) = IsFalse (has names cell.field) × ((v : ℤ) → IsLeft names s (goes v))

-- A structure leaves names unchanged if this holds at each scope.
pub record Leaves (names : List ℕ) (form : List ℕ → Form (List ℕ)) : Type 0 where
  pub at : (s : List ℕ) → IsLeft names s (form s)
