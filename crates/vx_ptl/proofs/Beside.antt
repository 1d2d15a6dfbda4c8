-- A run beside the form whose items it writes: at each field of bits it writes the gaps that the form had since the field before.
use Rattle.std.proofs.Common.{◌≡◌, ℕ, ℤ, zero, suc, ◌+◌, Bool, true, false, List, [], ◌∷◌, ◌++◌, length, slice_set, Some, refl, arith}
use Rattle.std.specs.Prelude.{All}
use Rattle.std.proofs.lemmas.List.{append_assoc, length-append}
use Rattle.std.proofs.lemmas.List.Elements.{All-cons, All-nil}
use Rattle.vx_bits.specs.declared.list.Item.{Item}
use Rattle.vx_table.specs.declared.rows.Cell.{Cell}
use Rattle.vx_table.specs.Forms.{Form, done, field, ◌>>=◌, has_value, turns}
use Rattle.vx_table.specs.Spelling.{HasCode, code_of, item_of, items_along}
use Rattle.vx_table.specs.Values.{Follows, to_end, through, bits_along}
use Rattle.vx_ptl.specs.Run.{item_bits, run_bits, gap, field_code, IsRunItem}

-- What holds between two fields of the last field written, of the place that the run has reached, and of the gaps of the form from there on.
abbrev pub Between : Type 1
Between = ℕ → ℕ → List Bool → Type 0

-- where the run has written all
abbrev pub Even : Between
Even before place gaps = gaps ≡ []

-- The run keeps up at one field.
pub data Keeps (cell : Cell ℕ) (v : ℤ) (before place : ℕ) (gaps : List Bool) (next : Between) : Type 0 where
  written : has_value cell.coding ≡ true → (field_code cell.field).coding ≡ Some cell.coding → gap before cell.field place ≡ gaps
      → next cell.field (place + length gaps + length (code_of cell.coding (place + length gaps) v)) [] → Keeps cell v before place gaps next
  owed : has_value cell.coding ≡ false → next before place (gaps ++ code_of cell.coding (place + length gaps) v) → Keeps cell v before place gaps next

-- It keeps up along a form.
abbrev pub Runs : {A : Type 0} → Between → Form A → Between
Runs end (done a) before place gaps = end before place gaps
Runs end (field cell goes) before place gaps = (v : ℤ) → HasCode cell.coding v → Keeps cell v before place gaps (Runs end (goes v))

keeps_more : {cell : Cell ℕ} {v : ℤ} {before place : ℕ} {gaps : List Bool} (next last : Between)
    → ((b p : ℕ) (g : List Bool) → next b p g → last b p g) → Keeps cell v before place gaps next → Keeps cell v before place gaps last
keeps_more next last on (written has coded gapped at) = written has coded gapped (on _ _ _ at)
keeps_more next last on (owed none at) = owed none (on _ _ _ at)

-- one form after another
pub runs_on : {A B : Type 0} (mid end : Between) (form : Form A) (next : A → Form B) (before place : ℕ) (gaps : List Bool)
    → ((a : A) (b p : ℕ) (g : List Bool) → mid b p g → Runs end (next a) b p g) → Runs mid form before place gaps → Runs end (form >>= next) before place gaps
runs_on mid end (done a) next before place gaps on at = on a before place gaps at
runs_on mid end (field cell goes) next before place gaps on runs =
    λ v has. keeps_more (Runs mid (goes v)) (Runs end (goes v >>= next)) (λ b p g at. runs_on mid end (goes v) next b p g on at) (runs v has)

-- turns of a block
pub runs_turns : (keep : Between) (block : List ℕ → Form (List ℕ)) (counter turn times : ℕ) (s : List ℕ) (before place : ℕ) (gaps : List Bool)
    → ((t : List ℕ) (b p : ℕ) (g : List Bool) → keep b p g → Runs keep (block t) b p g) → keep before place gaps → Runs keep (turns block counter turn times s) before place gaps
unfolding turns
runs_turns keep block counter turn zero s before place gaps each at = at
runs_turns keep block counter turn (suc more) s before place gaps each at =
    runs_on keep keep (block (slice_set s counter turn)) (turns block counter (turn + 1) more) before place gaps
    (λ t b p g now. runs_turns keep block counter (turn + 1) more t b p g each now) (each _ before place gaps at)

-- an item's bits are the gaps and its code
item_is : (cell : Cell ℕ) (v : ℤ) (before place at : ℕ) (gaps : List Bool) → at ≡ place + length gaps → (field_code cell.field).coding ≡ Some cell.coding → gap before cell.field place ≡ gaps
    → item_bits before place (record { field = cell.field; value = v }) ≡ gaps ++ code_of cell.coding at v
unfolding item_bits
item_is cell v before place at gaps here coded gapped = rw (coded, gapped, here) refl

-- the bits of an item and of those behind it
run_item : (cell : Cell ℕ) (v : ℤ) (items : List Item) (before place at : ℕ) (gaps bits : List Bool) → at ≡ place + length gaps → has_value cell.coding ≡ true
    → (field_code cell.field).coding ≡ Some cell.coding → gap before cell.field place ≡ gaps → run_bits cell.field (at + length (code_of cell.coding at v)) items ≡ bits
    → run_bits before place (item_of cell v ++ items) ≡ gaps ++ (code_of cell.coding at v ++ bits)
unfolding run_bits item_of
run_item cell v items before place at gaps bits here has coded gapped rest =
    let one = item_is cell v before place at gaps here coded gapped in
    let next : place + length (gaps ++ code_of cell.coding at v) ≡ at + length (code_of cell.coding at v) = omega (arith, length-append gaps (code_of cell.coding at v)) in
    rw (has, one, next, rest) (append_assoc gaps (code_of cell.coding at v) bits)

-- an item that is written has a code
item_runs : (cell : Cell ℕ) (v : ℤ) (items : List Item) → has_value cell.coding ≡ true → (field_code cell.field).coding ≡ Some cell.coding → HasCode cell.coding v
    → All IsRunItem items → All IsRunItem (item_of cell v ++ items)
unfolding IsRunItem item_of
item_runs cell v items has coded code rest =
    let item : Item = record { field = cell.field; value = v } in
    let run : IsRunItem item = rw coded code in
    rw has (All-cons IsRunItem item items run rest)

-- the bits of a field of bits, and of those behind it
item_spelled : {A : Type 0} (cell : Cell ℕ) (goes : ℤ → Form A) (v : ℤ) (w : List ℤ) (before place at : ℕ) (gaps : List Bool) → at ≡ place + length gaps → HasCode cell.coding v
    → has_value cell.coding ≡ true → (field_code cell.field).coding ≡ Some cell.coding → gap before cell.field place ≡ gaps
    → All IsRunItem (items_along (goes v) w) × (run_bits cell.field (at + length (code_of cell.coding at v)) (items_along (goes v) w) ≡ bits_along (goes v) (at + length (code_of cell.coding at v)) w)
    → All IsRunItem (items_along (field cell goes) (v ∷ w)) × (run_bits before place (items_along (field cell goes) (v ∷ w)) ≡ gaps ++ bits_along (field cell goes) at (v ∷ w))
item_spelled cell goes v w before place at gaps here code has coded gapped rest = (
  item_runs cell v (items_along (goes v) w) has coded code rest.0,
  run_item cell v (items_along (goes v) w) before place at gaps (bits_along (goes v) (at + length (code_of cell.coding at v)) w) here has coded gapped rest.1,
)

-- a gap has no item
gap_spelled : {A : Type 0} (cell : Cell ℕ) (goes : ℤ → Form A) (v : ℤ) (w : List ℤ) (before place at : ℕ) (gaps : List Bool) → has_value cell.coding ≡ false
    → All IsRunItem (items_along (goes v) w) × (run_bits before place (items_along (goes v) w) ≡ (gaps ++ code_of cell.coding at v) ++ bits_along (goes v) (at + length (code_of cell.coding at v)) w)
    → All IsRunItem (items_along (field cell goes) (v ∷ w)) × (run_bits before place (items_along (field cell goes) (v ∷ w)) ≡ gaps ++ bits_along (field cell goes) at (v ∷ w))
unfolding item_of
gap_spelled cell goes v w before place at gaps none rest =
    (rw none rest.0, rw (none, rest.1) (append_assoc gaps (code_of cell.coding at v) (bits_along (goes v) (at + length (code_of cell.coding at v)) w)))

-- What the run writes is what the form spells.
pub spelled : {A : Type 0} (form : Form A) (values : List ℤ) (a : A) (before place at : ℕ) (gaps : List Bool) → at ≡ place + length gaps → Follows form values a → Runs Even form before place gaps
    → All IsRunItem (items_along form values) × (run_bits before place (items_along form values) ≡ gaps ++ bits_along form at values)
unfolding run_bits
spelled _ _ a before place at gaps here to_end runs = (All-nil IsRunItem, rw runs refl)
spelled _ _ a before place at gaps here (through {cell} {goes} {v} {w} value follows) runs = elim (runs v value.code) [
  | written has coded gapped next ↦
      let even : at + length (code_of cell.coding at v) ≡ (place + length gaps + length (code_of cell.coding (place + length gaps) v)) + length {A = Bool} [] = rw here (omega arith) in
      let rest = spelled (goes v) w a _ _ (at + length (code_of cell.coding at v)) [] even follows next in
      item_spelled cell goes v w before place at gaps here value.code has coded gapped (rest.0, rw (← here) at rest.1)
  | owed none next ↦
      let even : at + length (code_of cell.coding at v) ≡ place + length (gaps ++ code_of cell.coding at v) = omega (arith, length-append gaps (code_of cell.coding at v)) in
      gap_spelled cell goes v w before place at gaps none (spelled (goes v) w a before place (at + length (code_of cell.coding at v)) (gaps ++ code_of cell.coding at v) even follows (rw here next))
]
