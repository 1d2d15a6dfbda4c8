-- What items tell of values that go through a form.
use Rattle.std.proofs.Common.{◌≡◌, ℕ, ℤ, suc, pos, ◌+◌, ◌-◌, ◌<◌, ◌≤◌, ◌==◌, true, false, List, [], ◌∷◌, length, drop, get_or, Some, refl, sym, ap, subst, ◌∙◌, arith, inl, inr, eq-eqb, drop-cons, add-one}
use Rattle.std.proofs.Math.ListN.{drop_of_length-le}
use Rattle.std.proofs.lemmas.Bool.{cases_Bool, ne_eqb}
use Rattle.vx_bits.specs.declared.list.Item.{Item}
use Rattle.vx_table.specs.Forms.{Form, has_value}
use Rattle.vx_table.specs.Scope.{natural}
use Rattle.vx_table.specs.Spelling.{item_of, items_along}
use Rattle.vx_table.specs.Values.{Follows, to_end, through}
use Rattle.vx_table.proofs.Items.{gap_value}
use Rattle.vx_pps.specs.declared.partition.Partition.{Partition}
use Rattle.vx_pps.specs.Items.{end_along, values_in}
use Rattle.vx_table.specs.Loaded.{numbers_of}
use Rattle.vx_pps.specs.Pps.{IsPps, or_none, partition_of, pps_form}

-- the values that their items give
pub values_back : {A : Type 0} {form : Form A} {v : List ℤ} {a : A} → Follows form v a → values_in form (items_along form v) ≡ v
unfolding item_of
values_back to_end = refl
values_back (through {cell} {goes} {v} {w} is more) = elim (cases_Bool (has_value cell.coding)) [
  | inl value ↦ rw value (ap (λ t. v ∷ t) (values_back more))
  | inr gap ↦
      let none : v ≡ pos 0 = gap_value cell.coding v gap is.code in
      rw (gap, none) (ap (λ t. pos 0 ∷ t) (subst (λ u. values_in (goes u) (items_along (goes u) w) ≡ w) none (values_back more)))
]

-- and the end where they lead
pub end_back : {A : Type 0} {form : Form A} {v : List ℤ} {a : A} → Follows form v a → end_along form v ≡ Some a
end_back to_end = refl
end_back (through is more) = end_back more

-- so the tiles and slices of a picture parameter set are those of its end
pub partition_is : (items : List Item) (end : Partition) → IsPps items end → partition_of items ≡ end
partition_is items end is =
    let values : values_in pps_form items ≡ is.values = ap (values_in pps_form) (sym is.given) ∙ values_back is.follows in
    ap or_none (ap (end_along pps_form) values ∙ end_back is.follows)

-- ---- the numbers of a field

split : (items : List Item) (i : ℕ) (item : Item) → i < length items → item ≡ get_or items i item → drop i items ≡ item ∷ drop (i + 1) items
split items i item more is =
    let cons : drop i items ≡ get_or items i item ∷ drop (i + 1) items = rw add-one (drop-cons items i item more) in
    cons ∙ ap (λ x. x ∷ drop (i + 1) items) (sym is)

-- from a place on, the number at an index is the item's there, or one from the next place on
pub number-here : (items : List Item) (of index before i : ℕ) (item : Item) → i < length items → item ≡ get_or items i item → item.field ≡ of → before ≡ index
    → get_or (numbers_of (drop i items) of) (index - before) 0 ≡ natural item.value
number-here items of index before i item more is hit at =
    let field : (item.field == of) ≡ true = eq-eqb _ _ hit in
    let first : index - before ≡ 0 = omega (arith, at) in
    rw (split items i item more is, field, first) refl

pub number-later : (items : List Item) (of index before i : ℕ) (item : Item) → i < length items → item ≡ get_or items i item → item.field ≡ of → before < index
    → get_or (numbers_of (drop i items) of) (index - before) 0 ≡ get_or (numbers_of (drop (i + 1) items) of) (index - (before + 1)) 0
number-later items of index before i item more is hit at =
    let field : (item.field == of) ≡ true = eq-eqb _ _ hit in
    let next : index - before ≡ suc (index - (before + 1)) = omega (arith, at) in
    rw (split items i item more is, field, next) refl

pub number-past : (items : List Item) (of index before i : ℕ) (item : Item) → i < length items → item ≡ get_or items i item → (item.field ≡ of → ⊥)
    → get_or (numbers_of (drop i items) of) (index - before) 0 ≡ get_or (numbers_of (drop (i + 1) items) of) (index - before) 0
number-past items of index before i item more is miss =
    let field : (item.field == of) ≡ false = ne_eqb _ _ miss in
    rw (split items i item more is, field) refl

pub number-none : (items : List Item) (of index i : ℕ) → length items ≤ i → get_or (numbers_of (drop i items) of) index 0 ≡ 0
number-none items of index i over = let none : drop i items ≡ [] = drop_of_length-le items over in rw none refl
