-- Items that are gathered one by one.
use Rattle.std.proofs.Common.{◌≡◌, ℕ, ◌+◌, Bool, true, false, cond, not, List, [], ◌∷◌, ◌++◌, take, slice_get, Some, ap, ◌∙◌}
use Rattle.std.proofs.lemmas.List.{append-nil}
use Rattle.std.proofs.lemmas.List.Elements.{filter_more}
use Rattle.std.proofs.lemmas.Option.{slice_get_within, get_or_from_slice_get}
use Rattle.vx_bits.specs.declared.list.Item.{Item}
use Rattle.vx_table.specs.Depends.{has}
use Rattle.vx_table.specs.Shown.{shown_items}
use Rattle.vx_table.specs.Rewritten.{other_items}
use Rattle.std.specs.Prelude.{filter}

-- an item that passes a test more, or one that doesn't
more : (p : Item → Bool) (items : List Item) (i : ℕ) (item : Item) → slice_get items i ≡ Some item
    → filter p (take (i + 1) items) ≡ filter p (take i items) ++ cond (p item) (item ∷ []) []
more p items i item at =
    filter_more p items i item (slice_get_within items i item at)
    ∙ ap (λ (x : Item). filter p (take i items) ++ cond (p x) (x ∷ []) []) (get_or_from_slice_get items i item item at)

-- an item of the set more, or none
pub shown_more : (names : List ℕ) (items : List Item) (i : ℕ) (item : Item) → slice_get items i ≡ Some item → has names item.field ≡ true
    → shown_items names (take (i + 1) items) ≡ shown_items names (take i items) ++ item ∷ []
shown_more names items i item at is =
    more (λ x. has names x.field) items i item at ∙ ap (λ b. shown_items names (take i items) ++ cond b (item ∷ []) []) is

pub shown_passed : (names : List ℕ) (items : List Item) (i : ℕ) (item : Item) → slice_get items i ≡ Some item → has names item.field ≡ false
    → shown_items names (take (i + 1) items) ≡ shown_items names (take i items)
shown_passed names items i item at is =
    more (λ x. has names x.field) items i item at ∙ ap (λ b. shown_items names (take i items) ++ cond b (item ∷ []) []) is
    ∙ append-nil (shown_items names (take i items))

-- an item more, of a field that isn't in the set, or none
pub other_more : (names : List ℕ) (items : List Item) (i : ℕ) (item : Item) → slice_get items i ≡ Some item → has names item.field ≡ false
    → other_items names (take (i + 1) items) ≡ other_items names (take i items) ++ item ∷ []
other_more names items i item at is =
    more (λ x. not (has names x.field)) items i item at ∙ ap (λ b. other_items names (take i items) ++ cond (not b) (item ∷ []) []) is

pub other_passed : (names : List ℕ) (items : List Item) (i : ℕ) (item : Item) → slice_get items i ≡ Some item → has names item.field ≡ true
    → other_items names (take (i + 1) items) ≡ other_items names (take i items)
other_passed names items i item at is =
    more (λ x. not (has names x.field)) items i item at ∙ ap (λ b. other_items names (take i items) ++ cond (not b) (item ∷ []) []) is
    ∙ append-nil (other_items names (take i items))
