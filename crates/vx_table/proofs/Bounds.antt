-- Where rows give a field a range in numbers, the field's items lie in it.
use Rattle.std.proofs.Common.{◌≡◌, ℕ, ℤ, pos, negsuc, zero, suc, Bool, true, false, cond, ◌&&◌, ◌==◌, inl, inr, List, Some, None, refl, arith, sym, ◌∙◌}
use Rattle.std.specs.Prelude.{All, int_le}
use Rattle.std.proofs.lemmas.Bool.{and_parts, eqb-true, eq-eqb, le-leb, cases_Bool, false≢true}
use Rattle.std.proofs.lemmas.List.Elements.{All-cons, All-nil}
use Rattle.vx_table.specs.declared.rows.Term.TheVariants.{Number}
use Rattle.vx_table.specs.declared.rows.Formula.{Formula}
use Rattle.vx_table.specs.declared.rows.Formula.TheVariants.{Plain}
use Rattle.vx_table.specs.declared.rows.Fault.{Fault}
use Rattle.vx_table.specs.declared.rows.Fault.TheVariants as faults
use Rattle.vx_table.specs.declared.rows.Limits.{Limits}
use Rattle.vx_table.specs.declared.rows.Limits.TheVariants.{Within, Multiple}
use Rattle.vx_table.specs.declared.rows.Cell.{Cell}
use Rattle.vx_table.specs.declared.rows.Row.TheVariants.{Field}
use Rattle.vx_table.specs.Scope.{value}
use Rattle.vx_table.specs.Forms.{Form, cell_at, limits_at, has_value}
use Rattle.vx_table.specs.Spelling.{fault_of, is_multiple, item_of, items_along}
use Rattle.vx_table.specs.Values.{Follows, to_end, through}
use Rattle.vx_table.specs.EachField.{EachField}
use Rattle.vx_table.specs.laws.Bounds.{lies, LiesIn, KeepsRange, is_range, tells_range, LieInRange, PartsLieInRange}
use Rattle.vx_table.proofs.Agreeing.{valued}
use Rattle.vx_table.proofs.EachField.{each_of_rows, each_of_sections}

-- a range that isn't broken
pub unbroken : (holds : Bool) (fault : Fault) → cond holds None (Some fault) ≡ None → holds ≡ true
unbroken true fault h = refl
unbroken false fault h = absurd (cc)

-- nor that of multiples
pub unbroken_multiple : (below is : Bool) (fault : Fault) → cond below (cond is None (Some faults.OutOfRange)) (Some fault) ≡ None → (below ≡ true) × (is ≡ true)
unbroken_multiple true true fault h = (refl, refl)
unbroken_multiple true false fault h = absurd (cc)
unbroken_multiple false is fault h = absurd (cc)

from_one : (unit : ℕ) (v : ℤ) → is_multiple unit v ≡ true → int_le (pos 1) v ≡ true
from_one unit (pos zero) h = absurd (cc)
from_one unit (pos (suc v)) h = le-leb 1 (suc v) (omega arith)
from_one unit (negsuc v) h = absurd (cc)

range_is : (low high : ℕ) (s : List ℕ) (limits : Limits Formula) (v : ℤ) → is_range low high limits ≡ true → fault_of (limits_at s limits) v ≡ None → lies low high v ≡ true
unfolding fault_of limits_at value
range_is low high s (Within (pos l) (Plain (Number h)) fault) v is none =
    let parts = and_parts (l == low) (h == high) is in
    let here = unbroken (int_le (pos l) v && int_le v (pos h)) fault none in
    rw (eqb-true l low parts.0, eqb-true h high parts.1) at here
range_is low high s (Multiple unit h fault) v is none =
    let parts = and_parts (1 == low) (h == high) is in
    let both = unbroken_multiple (int_le v (pos h)) (is_multiple unit v) fault none in
    let here : (int_le (pos 1) v && int_le v (pos h)) ≡ true = rw (from_one unit v both.1, both.0) refl in
    rw (eqb-true 1 low parts.0, eqb-true h high parts.1) at here
range_is low high s limits v is none = absurd (cc)

-- the row tells the range of its field at every scope
tells : (of low high : ℕ) (c : Cell Formula) (s : List ℕ) → tells_range of low high (Field c) ≡ true → KeepsRange of low high (cell_at s c)
tells of low high c s h = λ has same v none. elim (cases_Bool (is_range low high c.limits)) [
  | inl is ↦ range_is low high s c.limits v is none
  | inr other ↦ absurd (false≢true (rw (sym (valued s c.coding) ∙ has, eq-eqb c.field of same, other) at h))
]

items_lie : {A : Type 0} (of low high : ℕ) {form : Form A} {w : List ℤ} {a : A} → EachField (KeepsRange of low high) form → Follows form w a → All (LiesIn of low high) (items_along form w)
unfolding item_of
items_lie of low high each to_end = All-nil (LiesIn of low high)
items_lie of low high each (through {cell} {goes} {v} {w} value follows) =
    let more = items_lie of low high (each.1 v) follows in
    elim (cases_Bool (has_value cell.coding)) [
      | inl is ↦ rw is (All-cons (LiesIn of low high) (record { field = cell.field; value = v }) (items_along (goes v) w) (λ same. each.0 is same v value.range) more)
      | inr none ↦ rw none more
    ]

pub lie_in_range : LieInRange
lie_in_range of low high rows s values end pass follows =
    items_lie of low high (each_of_rows (KeepsRange of low high) (tells_range of low high) (λ c t is. tells of low high c t is) rows s pass) follows

pub parts_lie_in_range : PartsLieInRange
parts_lie_in_range of low high sections s values end pass follows =
    items_lie of low high (each_of_sections (KeepsRange of low high) (tells_range of low high) (λ c t is. tells of low high c t is) sections s pass) follows
