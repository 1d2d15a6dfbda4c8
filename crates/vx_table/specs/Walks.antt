-- A walk over a form: the steps that a coder takes along it. Our own. Contracts of all walks rely on it.
use Rattle.std.specs.Prelude.{ℕ, ℤ, Result, Ok, Err}
use Rattle.vx_table.specs.declared.rows.Cell.{Cell}
use Rattle.vx_table.specs.Forms.{Form, done, field}

-- A coder's answer to a field, and what it and its items become.
abbrev pub Step : Type 0 → Type 0 → Type 0 → Type 1
Step C I E = C → I → Cell ℕ → Result ℤ E → C → I → Type 0

-- The coder was taken along the form: to its end, or to a field that it refuses.
pub data Walks {C I E A : Type 0} (step : Step C I E) : Form A → C → I → Result A E → C → I → Type 0 where
  ended : {a : A} {c : C} {i : I} → Walks step (done a) c i (Ok a) c i
  coded : {cell : Cell ℕ} {goes : ℤ → Form A} {c d f : C} {i j k : I} {v : ℤ} {r : Result A E} → step c i cell (Ok v) d j
      → Walks step (goes v) d j r f k → Walks step (field cell goes) c i r f k
  refused : {cell : Cell ℕ} {goes : ℤ → Form A} {c d : C} {i j : I} {e : E} → step c i cell (Err e) d j
      → Walks step (field cell goes) c i (Err e) d j

-- The answer of a walk, with the scope that it left.
abbrev pub leaving : {A B E : Type 0} → A → Result B E → Result A E
leaving a (Ok u) = Ok a
leaving a (Err e) = Err e
