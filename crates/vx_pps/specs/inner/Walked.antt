-- A walk over a form that may also end because memory runs out.
use Rattle.std.specs.Prelude.{ℕ, ℤ, Result, Ok, Err}
use Rattle.vx_pps.specs.declared.halt.Halt.{Halt}
use Rattle.vx_pps.specs.declared.halt.Halt.TheVariants.{Memory, Refused}
use Rattle.vx_table.specs.declared.rows.Cell.{Cell}
use Rattle.vx_table.specs.Forms.{Form, done, field}
use Rattle.vx_table.specs.Walks.{Step}

-- The coder was taken along the form: to its end, to a field that it refuses, or as far as memory lasted, which is unspecified.
pub data Walked {C I E A : Type 0} (step : Step C I E) : Form A → C → I → Result A (Halt E) → C → I → Type 0 where
  ended : {a : A} {c : C} {i : I} → Walked step (done a) c i (Ok a) c i
  coded : {cell : Cell ℕ} {goes : ℤ → Form A} {c d f : C} {i j k : I} {v : ℤ} {r : Result A (Halt E)} → step c i cell (Ok v) d j
      → Walked step (goes v) d j r f k → Walked step (field cell goes) c i r f k
  refused : {cell : Cell ℕ} {goes : ℤ → Form A} {c d : C} {i j : I} {e : E} → step c i cell (Err e) d j
      → Walked step (field cell goes) c i (Err (Refused e)) d j
  halted : {form : Form A} {c d : C} {i j : I} → Walked step form c i (Err Memory) d j
