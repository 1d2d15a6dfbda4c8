-- Lists of items that are compared item by item.
use Rattle.std.proofs.Common.{◌≡◌, ℕ, ◌+◌, ◌≤◌, Bool, true, false, ◌&&◌, List, [], ◌∷◌, length, drop, refl, sym, ◌∙◌, ap, arith, inl, inr}
use Rattle.std.specs.Prelude.{Some, slice_get}
use Rattle.std.proofs.lemmas.Bool.{cases_Bool}
use Rattle.vx_bits.specs.declared.list.Item.{Item}
use Rattle.vx_table.proofs.Places.{dropped_all, dropped_at}
use Rattle.vx_pic.specs.Sets.{same_item, same_items}
use Rattle.vx_pic.proofs.Sent.{item_is, items_are}
use Rattle.vx_pic.proofs.Comparing.{same_self}

pub same_itself : (items : List Item) → same_items items items ≡ true
same_itself [] = refl
same_itself (x ∷ items) = rw (same_self x) (same_itself items)

-- lists of different lengths
pub items_longer : (items others : List Item) → (length items ≡ length others → ⊥) → false ≡ same_items items others
items_longer items others other = elim (cases_Bool (same_items items others)) [
  | inl same ↦ absurd (other (ap length (items_are items others same)))
  | inr not_same ↦ sym not_same
]

-- at item i
front_of : (items others : List Item) (i : ℕ) (a b : Item) → slice_get items i ≡ Some a → slice_get others i ≡ Some b
    → same_items (drop i items) (drop i others) ≡ (same_item a b && same_items (drop (i + 1) items) (drop (i + 1) others))
front_of items others i a b here there = rw (dropped_at items i a here, dropped_at others i b there) refl

not_one : (a b : Item) → (a ≡ b → ⊥) → same_item a b ≡ false
not_one a b other = elim (cases_Bool (same_item a b)) [
  | inl same ↦ absurd (other (item_is a b same))
  | inr not_same ↦ not_same
]

differs_at : (items others : List Item) (i : ℕ) (a b : Item) → slice_get items i ≡ Some a → slice_get others i ≡ Some b → (a ≡ b → ⊥)
    → false ≡ same_items (drop i items) (drop i others)
differs_at items others i a b here there other =
    sym (front_of items others i a b here there ∙ ap (λ t. t && same_items (drop (i + 1) items) (drop (i + 1) others)) (not_one a b other))

-- that differs in its field
pub field_differs : (items others : List Item) (i : ℕ) (a b : Item) (t : Bool) → slice_get items i ≡ Some a → slice_get others i ≡ Some b
    → (a.field ≡ b.field → ⊥) → t ≡ same_items (drop i items) (drop i others) → false ≡ t
field_differs items others i a b t here there other front =
    differs_at items others i a b here there (λ e. other (ap (λ x. x.field) e)) ∙ sym front

-- that differs in its value
pub value_differs : (items others : List Item) (i : ℕ) (a b : Item) (t : Bool) → slice_get items i ≡ Some a → slice_get others i ≡ Some b
    → (a.value ≡ b.value → ⊥) → t ≡ same_items (drop i items) (drop i others) → false ≡ t
value_differs items others i a b t here there other front =
    differs_at items others i a b here there (λ e. other (ap (λ x. x.value) e)) ∙ sym front

one_item : (a b : Item) → a.field ≡ b.field → a.value ≡ b.value → a ≡ b
one_item a b field value = rw (field, value) refl

-- that is the same
pub alike_at : (items others : List Item) (i : ℕ) (a b : Item) (t : Bool) → slice_get items i ≡ Some a → slice_get others i ≡ Some b
    → a.field ≡ b.field → a.value ≡ b.value
    → t ≡ same_items (drop i items) (drop i others) → t ≡ same_items (drop (i + 1) items) (drop (i + 1) others)
alike_at items others i a b t here there field value front =
    front ∙ front_of items others i a b here there
    ∙ ap (λ t. t && same_items (drop (i + 1) items) (drop (i + 1) others)) (ap (λ x. same_item a x) (sym (one_item a b field value)) ∙ same_self a)

-- behind the last item
pub all_alike_items : (items others : List Item) (i : ℕ) (t : Bool) → length items ≡ length others → length items ≤ i
    → t ≡ same_items (drop i items) (drop i others) → true ≡ t
all_alike_items items others i t size past front =
    sym (front ∙ rw (dropped_all items i past, dropped_all others i (omega (arith, size, past))) refl)
