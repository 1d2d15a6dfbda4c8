-- The values that a field may have, how values go through a form, and how they are spelled. All readers and writers of syntax rely
-- on it.
use Rattle.std.specs.Prelude.{◌≡◌, ℕ, ℤ, ◌+◌, Bool, List, [], ◌∷◌, ◌++◌, length, None}
use Rattle.vx_table.specs.declared.rows.Cell.{Cell}
use Rattle.vx_table.specs.Forms.{Form, done, field}
use Rattle.vx_table.specs.Spelling.{HasCode, MayEnd, code_of, fault_of}

-- A field may have the value: it has a code, and is in the range (7.2, 7.4).
pub record IsValueOf (cell : Cell ℕ) (v : ℤ) : Type 0 where
  pub code : HasCode cell.coding v
  pub range : fault_of cell.limits v ≡ None

-- The values go through the form to its end, each one that its field may have, and this is what is at that end (7.1).
pub data Follows {A : Type 0} : Form A → List ℤ → A → Type 0 where
  to_end : {a : A} → Follows (done a) [] a
  through : {cell : Cell ℕ} {goes : ℤ → Form A} {v : ℤ} {w : List ℤ} {a : A}
      → IsValueOf cell v → Follows (goes v) w a → Follows (field cell goes) (v ∷ w) a

-- The values part where the form ends: the first of them go through it, and the others through the next.
pub record Parted {A B : Type 0} (form : Form A) (next : A → Form B) (values : List ℤ) (end : B) : Type 0 where
  pub front : List ℤ
  pub others : List ℤ
  pub mid : A
  pub all : values ≡ front ++ others
  pub first : Follows form front mid
  pub second : Follows (next mid) others end

-- The values go along the form, each one that its field may have, up to a field that comes next.
pub data ComesTo {A : Type 0} : Form A → List ℤ → Cell ℕ → Type 0 where
  at_field : {cell : Cell ℕ} {goes : ℤ → Form A} → ComesTo (field cell goes) [] cell
  past : {cell next : Cell ℕ} {goes : ℤ → Form A} {v : ℤ} {w : List ℤ} → IsValueOf cell v → ComesTo (goes v) w next
      → ComesTo (field cell goes) (v ∷ w) next

-- The spelling of values that go along a form, from a place on: their codes and the gaps, one after another (7.1, 7.2).
abbrev pub bits_along : {A : Type 0} → Form A → ℕ → List ℤ → List Bool
bits_along (done a) place w = []
bits_along (field cell goes) place [] = []
bits_along (field cell goes) place (v ∷ w) =
    code_of cell.coding place v ++ bits_along (goes v) (place + length (code_of cell.coding place v)) w

-- After a trailing nothing follows: no bit of a field after it, and no rest.
abbrev pub Closes : {A : Type 0} → Form A → ℕ → List ℤ → List Bool → Type 0
Closes (done a) place w rest = Unit {0}
Closes (field cell goes) place [] rest = Unit {0}
Closes (field cell goes) place (v ∷ w) rest =
    MayEnd cell.coding (bits_along (goes v) (place + length (code_of cell.coding place v)) w ++ rest)
    × Closes (goes v) (place + length (code_of cell.coding place v)) w rest
