-- Items that are still to be written, and the values that they tell.
use Rattle.std.proofs.Common.{◌≡◌, ℕ, ℤ, pos, suc, ◌+◌, ◌-◌, ◌<◌, ◌≤◌, false, cond, List, [], ◌∷◌, ◌++◌, length, take, drop, get_or, Some, refl, ap, sym, ◌∙◌, arith, add-one, drop-cons}
use Rattle.vx_bits.specs.declared.list.Item.{Item}
use Rattle.vx_table.specs.declared.rows.Coding.{Coding}
use Rattle.vx_table.specs.declared.rows.Coding.TheVariants.{Fixed, Golomb, SignedGolomb, Zeros, OneAndZeros, Trailing, Absent, Refused}
use Rattle.vx_table.specs.declared.rows.Cell.{Cell}
use Rattle.vx_table.specs.Forms.{has_value}
use Rattle.vx_table.specs.Writing.{TellsValue}
use Rattle.vx_table.specs.Spelling.{HasCode, item_of}

-- the next of the items from one place up to another
pub unwritten_next : (items : List Item) (at end : ℕ) (item : Item) → at < end → end ≤ length items → item ≡ get_or items at item
    → take (end - at) (drop at items) ≡ item ∷ take (end - (at + 1)) (drop (at + 1) items)
unwritten_next items at end item more within is =
    let one : end - at ≡ suc (end - (at + 1)) = omega arith in
    rw (one, add-one, drop-cons items at item (omega arith)) cc

-- the first of two equal lists of items
pub same_value : (field : ℕ) (v w : ℤ) (r s : List Item) → (record { field = field; value = v } ∷ []) ++ r ≡ (record { field = field; value = w } ∷ []) ++ s → (v ≡ w) × (r ≡ s)
same_value field v w r s e =
    let first : ◌≡◌ {A = Item} (record { field = field; value = v }) (record { field = field; value = w }) = cc in
    let behind : r ≡ s = cc in
    (ap (λ (item : Item). item.value) first, behind)

-- an item tells the value of a field, and what follows
item_apart_at : (coding : Coding ℕ) (field : ℕ) (v w : ℤ) (r s : List Item) → HasCode coding v → HasCode coding w
    → cond (has_value coding) (record { field = field; value = v } ∷ []) [] ++ r ≡ cond (has_value coding) (record { field = field; value = w } ∷ []) [] ++ s → (v ≡ w) × (r ≡ s)
unfolding has_value HasCode
item_apart_at (Fixed n) field v w r s a b e = same_value field v w r s e
item_apart_at Golomb field v w r s a b e = same_value field v w r s e
item_apart_at SignedGolomb field v w r s a b e = same_value field v w r s e
item_apart_at Zeros field v w r s a b e = (a ∙ sym b, e)
item_apart_at OneAndZeros field v w r s a b e = (a ∙ sym b, e)
item_apart_at Trailing field v w r s a b e = (a ∙ sym b, e)
item_apart_at Absent field v w r s a b e = (a ∙ sym b, e)
item_apart_at Refused field v w r s a b e = absurd a

pub item_apart : (cell : Cell ℕ) {v w : ℤ} (r s : List Item) → HasCode cell.coding v → HasCode cell.coding w → item_of cell v ++ r ≡ item_of cell w ++ s → (v ≡ w) × (r ≡ s)
unfolding item_of
item_apart cell {v} {w} r s a b e = item_apart_at cell.coding cell.field v w r s a b e

-- the value of a gap is 0
pub gap_value : (coding : Coding ℕ) (v : ℤ) → has_value coding ≡ false → HasCode coding v → v ≡ pos 0
unfolding has_value HasCode
gap_value (Fixed n) v gap has = absurd (cc)
gap_value Golomb v gap has = absurd (cc)
gap_value SignedGolomb v gap has = absurd (cc)
gap_value Zeros v gap has = has
gap_value OneAndZeros v gap has = has
gap_value Trailing v gap has = has
gap_value Absent v gap has = has
gap_value Refused v gap has = absurd has

-- and it has no item
pub gap_tells : (field : ℕ) (coding : Coding ℕ) (items : List Item) → has_value coding ≡ false → TellsValue field coding items (Some (pos 0)) items
gap_tells field coding items gap = (rw gap refl, λ u more has is. gap_value coding u gap has)
