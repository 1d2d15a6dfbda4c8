-- The QP of a PPS, less 26, is in its range.
use Rattle.std.proofs.Common.{◌≡◌, ℕ, ℤ, pos, negsuc, neg_ℤ, ◌≤ℤ◌, Bool, true, false, ◌&&◌, ◌||◌, not, List, None, refl, subst, inl, inr, arith}
use Rattle.std.specs.Prelude.{◌==◌, int_le, unwrap_or}
use Rattle.std.proofs.lemmas.Bool.{and_parts, cases_Bool, eqb-true, eq-eqb, leb-true}
use Rattle.std.proofs.lemmas.Int.{ints}
use Rattle.vx_bits.specs.declared.list.Item.{Item}
use Rattle.vx_bits.specs.Fields.{first_value}
use Rattle.vx_fields.specs.declared.pps.TheConstants as pps_fields
use Rattle.vx_table.specs.declared.rows.Term.TheVariants.{Number}
use Rattle.vx_table.specs.declared.rows.Formula.{Formula}
use Rattle.vx_table.specs.declared.rows.Formula.TheVariants.{Plain}
use Rattle.vx_table.specs.declared.rows.Limits.{Limits}
use Rattle.vx_table.specs.declared.rows.Limits.TheVariants.{Within}
use Rattle.vx_table.specs.declared.rows.Cell.{Cell}
use Rattle.vx_table.specs.declared.rows.Row.{Row}
use Rattle.vx_table.specs.declared.rows.Row.TheVariants.{Field, Block, Name}
use Rattle.vx_table.specs.EachField.{EachField}
use Rattle.vx_table.specs.Forms.{Form, done, ◌>>=◌, cell_at, has_value, limits_at}
use Rattle.vx_table.specs.Parts.{sections_form}
use Rattle.vx_table.specs.Scope.{fresh, value}
use Rattle.vx_table.specs.Spelling.{fault_of, item_of, items_along}
use Rattle.vx_table.specs.Values.{Follows, to_end, through}
use Rattle.vx_table.proofs.Bounds.{unbroken}
use Rattle.vx_table.proofs.EachField.{each_of_sections, each_then}
use Rattle.vx_pps.specs.Pps.{ArePpsItems, before_tiles, partition_at, pps_form, after_slices}
use Rattle.vx_pps.proofs.Cutting.{each_weaker}
use Rattle.vx_pps.proofs.Division.{IsDividing, each_division}
use Rattle.vx_pic.specs.Sets.{signed}

abbrev pub IsQp : ℤ → Type 0
IsQp v = (neg_ℤ (pos 38) ≤ℤ v) × (v ≤ℤ pos 37)

abbrev KeepsQp : Cell ℕ → Type 0
KeepsQp cell = cell.field ≡ pps_fields.pps_init_qp_minus26 → (v : ℤ) → fault_of cell.limits v ≡ None → IsQp v

unfoldable limits_qp : Limits Formula → Bool
limits_qp (Within (negsuc low) (Plain (Number high)) fault) = (low == 37) && (high == 37)
limits_qp limits = false

unfoldable row_qp : Row → Bool
row_qp (Field c) = not (c.field == pps_fields.pps_init_qp_minus26) || limits_qp c.limits
row_qp (Block presence n) = true
row_qp (Name name formula) = true

within : (v : ℤ) → (int_le (negsuc 37) v && int_le v (pos 37)) ≡ true → IsQp v
within (pos n) test = let parts = and_parts (int_le (negsuc 37) (pos n)) (int_le (pos n) (pos 37)) test in let few = leb-true n 37 parts.1 in (omega (arith, ints), omega (arith, ints, few))
within (negsuc n) test = let parts = and_parts (int_le (negsuc 37) (negsuc n)) (int_le (negsuc n) (pos 37)) test in let few = leb-true n 37 parts.0 in (omega (arith, ints, few), omega (arith, ints))

range_gives : (limits : Limits Formula) (s : List ℕ) (v : ℤ) → limits_qp limits ≡ true → fault_of (limits_at s limits) v ≡ None → IsQp v
unfolding limits_qp limits_at fault_of value
range_gives (Within (negsuc low) (Plain (Number high)) fault) s v test none =
    let parts = and_parts (low == 37) (high == 37) test in
    let here = unbroken (int_le (negsuc low) v && int_le v (pos high)) fault none in
    within v (rw (eqb-true low 37 parts.0, eqb-true high 37 parts.1) at here)
range_gives limits s v test none = absurd (cc)

row_gives : (c : Cell Formula) (s : List ℕ) → row_qp (Field c) ≡ true → KeepsQp (cell_at s c)
unfolding row_qp
row_gives c s test = λ same v none. range_gives c.limits s v (rw (eq-eqb c.field pps_fields.pps_init_qp_minus26 same) at test) none

each : EachField KeepsQp pps_form
unfolding pps_form row_qp limits_qp
each = each_then KeepsQp (sections_form before_tiles fresh) (λ s. partition_at s >>= λ p. sections_form after_slices s >>= λ t. done p)
    (each_of_sections KeepsQp row_qp row_gives before_tiles fresh refl)
    (λ s. each_then KeepsQp (partition_at s) (λ p. sections_form after_slices s >>= λ t. done p)
    (each_weaker IsDividing KeepsQp (partition_at s) (λ cell is same v none. absurd (let high = is.1 in omega (arith, high, same))) (each_division _ _ _))
    (λ p. each_then KeepsQp (sections_form after_slices s) (λ t. done p) (each_of_sections KeepsQp row_qp row_gives after_slices s refl) (λ t. tt)))

-- the first value of the field
found : {A : Type 0} {f : Form A} {w : List ℤ} {a : A} → EachField KeepsQp f → Follows f w a → IsQp (unwrap_or (first_value (items_along f w) pps_fields.pps_init_qp_minus26) (pos 0))
unfolding item_of
found all to_end = (omega (arith, ints), omega (arith, ints))
found all (through {cell} {goes} {v} {w} value on) = elim (cases_Bool (has_value cell.coding)) [
  | inl is ↦ elim (cases_Bool (cell.field == pps_fields.pps_init_qp_minus26)) [
    | inl here ↦ rw (is, here) (all.0 (eqb-true cell.field pps_fields.pps_init_qp_minus26 here) v value.range)
    | inr other ↦ rw (is, other) (found (all.1 v) on)
  ]
  | inr none ↦ rw none (found (all.1 v) on)
]

pub init_qp_is : (items : List Item) → ArePpsItems items → IsQp (signed items pps_fields.pps_init_qp_minus26)
init_qp_is items set = subst (λ xs. IsQp (unwrap_or (first_value xs pps_fields.pps_init_qp_minus26) (pos 0))) set.set.given (found each set.set.follows)
